pub mod PartLemmas
pub mod EdgeLemmas
pub mod PushedLemmas
pub mod ReachLemmas
