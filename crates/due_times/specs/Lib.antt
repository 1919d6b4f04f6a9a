pub mod claims
pub mod Index
pub mod Levels
