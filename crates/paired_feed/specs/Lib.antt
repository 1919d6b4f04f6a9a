pub mod Paired
pub mod PairedLaws
