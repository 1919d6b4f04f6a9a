pub mod PlaceLemmas
pub mod NameLemmas
pub mod LimitLemmas
pub mod Accepted
pub mod Refusals
pub mod TextLemmas
pub mod PlainLemmas
mod CountLemmas
mod EntryLemmas
mod AskedLemmas
