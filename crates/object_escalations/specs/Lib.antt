pub mod claims
pub mod Escalated
pub mod Given
pub mod Entries
pub mod Laws
