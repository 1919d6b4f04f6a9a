mod EscalatedLemmas
mod GivenLemmas
mod LawLemmas
