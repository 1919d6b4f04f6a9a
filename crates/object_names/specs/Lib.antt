pub mod claims
pub mod Named
pub mod Doubled
pub mod References
pub mod Unknown
