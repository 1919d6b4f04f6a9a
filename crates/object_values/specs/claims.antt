-- What one must read to believe the headline statements (tools/headlines.py).
pub mod Values
pub mod Options
pub mod Ranges
pub mod DayRules
