-- What one must read to believe the headline statements (tools/headlines.py).
pub mod Names
pub mod Members
pub mod Objects
pub mod Groups
pub mod First
