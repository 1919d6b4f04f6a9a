-- What one must read to believe the headline statements (tools/headlines.py).
pub mod Lists
pub mod Lanes
pub mod Feed
pub mod Due
pub mod Run
pub mod Unread
