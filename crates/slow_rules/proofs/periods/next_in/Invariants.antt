use Rattle.due_model.specs.claims.Periods.{in_period}
use Rattle.slow_rules.proofs.WalkLemmas.{IsLeft}
use Rattle.slow_rules.proofs.periods.next_in.Given as goal

abbrev pub invariant-loop-at : goal.invariant-loop-at
invariant-loop-at l = IsLeft (in_period l.config l.zone l.period) l.t l.at
