pub mod claims
pub mod Pairs
pub mod Limits
pub mod Loops
pub mod Laws
pub mod PairLaws
