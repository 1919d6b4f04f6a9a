pub mod claims
pub mod Entries
pub mod Message
