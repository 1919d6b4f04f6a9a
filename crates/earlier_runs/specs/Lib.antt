pub mod Compared
pub mod ComparedLaws
pub mod FromNow
pub mod FromNowLaws
pub mod State
pub mod Strays
pub mod Tally
