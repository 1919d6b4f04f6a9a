pub mod TableLemmas
pub mod OwnLemmas
pub mod ObjectLemmas
pub mod LawLemmas
