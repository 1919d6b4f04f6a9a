pub mod StepLineLaws
pub mod RunLaws
pub mod LaneLaws
pub mod StepLinesLaws
pub mod FeedLaws
pub mod TraceLaws
pub mod EndLaws
