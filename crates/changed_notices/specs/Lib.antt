pub mod Names
pub mod Left
pub mod Changed
