pub mod Names
pub mod Unknown
pub mod Fault
pub mod Rows
pub mod Who
