-- What one must read to believe the headline statements (tools/headlines.py).
pub mod Templates
pub mod Inherited
pub mod Faults
pub mod Registered
pub mod Kinds
pub mod DatedLines
