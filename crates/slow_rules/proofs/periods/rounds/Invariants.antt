use Rattle.day_rules.specs.Dates.{shown}
use Rattle.slow_rules.specs.Rounds.{ArePeriodFlags}
use Rattle.slow_rules.proofs.periods.rounds.Given as goal

abbrev pub invariant-loop-round : goal.invariant-loop-round
invariant-loop-round l = ArePeriodFlags l._round l.periods (shown l.time) l.flags.items
