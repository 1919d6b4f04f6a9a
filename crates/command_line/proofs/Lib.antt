mod RequestLemmas
mod RuleLemmas
