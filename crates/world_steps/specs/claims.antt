-- What one must read to believe the headline statements (tools/headlines.py).
pub mod Worlds
pub mod Steps
pub mod Lines
pub mod Runs
pub mod Fits
pub mod Views
