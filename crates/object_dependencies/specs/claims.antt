-- What one must read to believe the headline statements (tools/headlines.py).
pub mod Pairs
pub mod Limits
pub mod Entries
pub mod Loops
