pub mod ListLemmas
pub mod WalkLemmas
pub mod CloseLemmas
pub mod MoveLemmas
pub mod OverLemmas
pub mod TopLemmas
