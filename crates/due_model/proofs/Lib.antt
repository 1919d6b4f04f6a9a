pub mod ObjectIndex
pub mod SameBytes
pub mod ByObjectLemmas
