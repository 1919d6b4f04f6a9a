pub mod claims
pub mod Groups
pub mod Nodes
pub mod Pairs
pub mod Laws
