mod NumberLemmas
mod LawLemmas
mod SharedLemmas
mod ListLemmas
mod NodeLemmas
mod GroupLemmas
