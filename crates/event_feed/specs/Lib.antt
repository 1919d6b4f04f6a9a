pub mod claims
pub mod Line
pub mod Feed
pub mod Feeder
pub mod FeedLaws
pub mod Laws
