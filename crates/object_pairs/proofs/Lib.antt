pub mod PairLemmas
pub mod WantedLemmas
pub mod FoundLemmas
pub mod UnknownLemmas
pub mod MemberLemmas
