pub mod DoubledLemmas
pub mod EntryLemmas
pub mod UnknownLemmas
