pub mod Nights
pub mod Drawing
pub mod Draws
