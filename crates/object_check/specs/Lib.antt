pub mod Misfits
pub mod Rows
pub mod Marks
pub mod Answered
