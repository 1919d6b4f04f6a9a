pub mod RoundLemmas
pub mod WalkLemmas
pub mod RangeLemmas
pub mod EscalatedLemmas
pub mod MasterLemmas
pub mod ProblemLemmas
pub mod SlowLemmas
