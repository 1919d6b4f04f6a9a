pub mod claims
pub mod Readings
pub mod Acknowledgements
pub mod Choices
pub mod Items
pub mod LaneFits
pub mod Objects
pub mod ByObject
