pub mod Matching
pub mod Named
