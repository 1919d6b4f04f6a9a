pub mod claims
pub mod Periods
pub mod Loops
pub mod Laws
