pub mod Lines
pub mod Told
pub mod Telling
pub mod Tells
pub mod ToldLaws
pub mod FollowLaws
pub mod TellsLaws
