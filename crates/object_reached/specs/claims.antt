-- What one must read to believe the headline statements (tools/headlines.py).
pub mod Services
pub mod Listed
pub mod Roles
pub mod Reached
