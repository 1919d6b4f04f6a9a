pub mod Cuts
pub mod Entries
pub mod Lines
pub mod Names
pub mod Told
