mod ExcludeLemmas
mod DayLemmas
mod PeriodLemmas
mod RuleLemmas
mod LoopLemmas
mod LawLemmas
mod DatedLemmas
