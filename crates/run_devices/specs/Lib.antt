pub mod Ahead
pub mod Channels
pub mod Done
pub mod Fault
