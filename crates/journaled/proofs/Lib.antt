pub mod FindLaws
pub mod PartLaws
pub mod RunLaws
