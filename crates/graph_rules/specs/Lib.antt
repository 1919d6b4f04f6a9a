pub mod Rules
pub mod Loops
