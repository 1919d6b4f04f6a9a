pub mod MarkLemmas
pub mod LaneLemmas
pub mod ContactLemmas
pub mod LawLemmas
