pub mod claims
pub mod Objects
pub mod InputLaws
pub mod Zones
