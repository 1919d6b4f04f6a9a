pub mod StepLine
pub mod Run
pub mod StepLines
pub mod LaneLines
pub mod Feed
pub mod FeedRun
pub mod Trace
