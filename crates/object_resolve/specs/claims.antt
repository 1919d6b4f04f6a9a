-- What one must read to believe the headline statements (tools/headlines.py).
pub mod First
pub mod Names
pub mod Limits
pub mod Config
pub mod Resolve
pub mod Text
