mod LineLemmas
mod OriginLemmas
mod AddLemmas
mod PlaceLemmas
mod SoundLemmas
