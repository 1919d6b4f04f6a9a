pub mod ListLemmas
pub mod FitLaws
pub mod Gains
pub mod Shapes
pub mod StateLaws
pub mod NewWorlds
pub mod RecordLaws
pub mod RunLaws
pub mod StepLaws
mod LineLaws
pub mod OrderLaws
pub mod ChannelLaws
