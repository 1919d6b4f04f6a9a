pub mod Past
pub mod Sides
pub mod Told
pub mod Compares
pub mod Stream
