-- What one must read to believe the headline statements (tools/headlines.py).
pub mod Lone
pub mod Names
pub mod Values
pub mod Blocks
