pub mod EntryLemmas
pub mod NumberLemmas
pub mod RangeLemmas
pub mod DayRuleLemmas
