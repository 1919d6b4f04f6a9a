pub mod ClockLemmas
pub mod ChangeLemmas
pub mod YearLemmas
