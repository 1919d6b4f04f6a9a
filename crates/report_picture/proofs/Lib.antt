pub mod DrawingLaws
pub mod DrawsLaws
pub mod NightLaws
