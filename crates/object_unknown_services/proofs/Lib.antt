pub mod KeyLemmas
pub mod NamedLemmas
pub mod DistinctLemmas
pub mod StampLemmas
pub mod UnknownLemmas
