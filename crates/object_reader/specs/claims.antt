-- What one must read to believe the headline statements (tools/headlines.py).
pub mod Lines
pub mod Blanks
pub mod Joined
pub mod Statements
pub mod DayLines
pub mod Spelling
pub mod Grammar
