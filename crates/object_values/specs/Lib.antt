pub mod claims
pub mod Values
