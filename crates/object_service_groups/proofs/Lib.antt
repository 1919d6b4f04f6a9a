mod ElementLemmas
mod NumberLemmas
mod MemberLemmas
mod NodeLemmas
mod GroupLemmas
mod LawLemmas
