pub mod LineLaws
pub mod ToldLaws
pub mod TellingLaws
