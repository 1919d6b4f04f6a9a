-- What one must read to believe the headline statements (tools/headlines.py).
pub mod Attempts
pub mod Channels
pub mod Offers
pub mod Picked
