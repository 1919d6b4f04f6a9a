pub mod Fault
pub mod JournalLines
pub mod Resumed
