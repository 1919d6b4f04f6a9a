pub mod FirstLemmas
pub mod KnownLemmas
pub mod TableLemmas
pub mod NeedLemmas
mod RankLemmas
mod DateLemmas
