pub mod claims
pub mod WrittenLaws
