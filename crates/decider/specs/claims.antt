-- What one must read to believe the headline statements (tools/headlines.py).
pub mod Share
pub mod Statuses
pub mod Books
pub mod Ready
pub mod Events
pub mod Outbox
pub mod Decider
pub mod Fits
