pub mod Properness
pub mod Items
pub mod Merge
pub mod Feeds
pub mod Taken
pub mod FeedLaws
