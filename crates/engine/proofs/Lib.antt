pub mod AlikeLaws
pub mod ChannelLaws
pub mod FeedsLaws
pub mod IntakeLaws
pub mod LeftLaws
pub mod PostLaws
pub mod RecordLaws
pub mod RunEndLaws
