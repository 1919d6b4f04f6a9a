pub mod Plain
pub mod Picks
pub mod Json
