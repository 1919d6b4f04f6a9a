pub mod Faults
pub mod Warnings
pub mod Checked
