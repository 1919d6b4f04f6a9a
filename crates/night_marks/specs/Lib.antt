pub mod Conditions
pub mod Counts
pub mod Lists
pub mod Kept
pub mod Night
