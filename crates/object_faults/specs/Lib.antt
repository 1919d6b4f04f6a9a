pub mod claims
pub mod Faults
pub mod Lists
pub mod Columns
pub mod Known
pub mod Needs
pub mod LoadFaults
