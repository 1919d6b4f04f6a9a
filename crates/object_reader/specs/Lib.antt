pub mod claims
pub mod Fault
pub mod Lines
pub mod Joined
pub mod Statements
pub mod DayLines
pub mod Blocks
pub mod Grammar
