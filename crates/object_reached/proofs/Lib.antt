mod ServiceLemmas
mod AddsLemmas
mod ListedLemmas
mod ReachedLemmas
mod AlikeLemmas
