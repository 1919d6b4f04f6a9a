mod PairLemmas
mod BlockLemmas
mod LimitLemmas
mod EntryLemmas
mod LawLemmas
