pub mod Values
pub mod Tried
