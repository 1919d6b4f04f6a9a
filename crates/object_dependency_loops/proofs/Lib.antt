mod ReachLemmas
mod SpeechLemmas
mod BaseLemmas
mod RoleLemmas
mod DescribedLemmas
mod RuleLemmas
mod LoopLemmas
mod ApartLemmas
