pub mod claims
pub mod Keys
pub mod Distinct
pub mod Named
pub mod Stamps
pub mod Unknown
