-- What one must read to believe the headline statements (tools/headlines.py).
pub mod Fields
pub mod Outcome
pub mod OutputLine
pub mod ReportLine
pub mod RunLine
pub mod TraceLine
