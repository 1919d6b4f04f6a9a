pub mod NameLaws
pub mod WhoLaws
