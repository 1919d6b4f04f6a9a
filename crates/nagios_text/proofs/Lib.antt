mod PartLemmas
mod LoopLemmas
