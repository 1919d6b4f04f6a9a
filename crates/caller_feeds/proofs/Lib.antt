pub mod ItemLemmas
pub mod RingLemmas
pub mod MergeLemmas
pub mod TakenLemmas
pub mod MeetLemmas
mod ProperLemmas
