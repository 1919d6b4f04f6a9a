pub mod InOrderLemmas
pub mod ByObjectLemmas
pub mod MatchingLemmas
