pub mod claims
pub mod Fault
pub mod Limits
pub mod Asked
pub mod Laws
pub mod PlainLaws
pub mod Tables
