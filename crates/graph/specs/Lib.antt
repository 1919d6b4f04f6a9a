pub mod claims
pub mod Lists
pub mod Edges
pub mod Reach
