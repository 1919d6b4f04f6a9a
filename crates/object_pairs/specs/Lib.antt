pub mod claims
pub mod Pairs
pub mod Wanted
