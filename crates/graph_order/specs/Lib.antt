pub mod Order
pub mod Loops
pub mod Walk
