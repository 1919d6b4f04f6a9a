pub mod Forms
pub mod Missed
