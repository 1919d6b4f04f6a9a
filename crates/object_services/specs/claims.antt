-- What one must read to believe the headline statements (tools/headlines.py).
pub mod Hosts
pub mod Limits
pub mod Doubled
pub mod Numbers
