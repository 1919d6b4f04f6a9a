pub mod AppendLemmas
pub mod LocatedLemmas
