mod ListedLemmas
mod ContactLemmas
