-- What one must read to believe the headline statements (tools/headlines.py).
pub mod Named
pub mod Doubled
pub mod References
pub mod Unknown
