mod LinkLemmas
mod ChainLemmas
mod LoopLemmas
