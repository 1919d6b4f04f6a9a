pub mod MisfitLemmas
pub mod DateLemmas
pub mod MarkLemmas
pub mod AnsweredLemmas
