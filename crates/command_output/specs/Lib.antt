pub mod claims
pub mod LineHead
pub mod Outcome
