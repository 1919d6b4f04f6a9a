pub mod LadderLemmas
