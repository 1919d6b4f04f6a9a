pub mod claims
pub mod Settings
