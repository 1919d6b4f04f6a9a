pub mod claims
pub mod Worlds
pub mod Runs
pub mod Views
pub mod Orders
