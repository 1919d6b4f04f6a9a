mod BlockLemmas
mod LimitLemmas
mod LimitLaws
mod DoubledLemmas
mod AlikeLemmas
mod PairLemmas
