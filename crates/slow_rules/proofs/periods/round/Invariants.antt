use Rattle.std.proofs.Common.{◌≡◌, map, take}
use Rattle.day_rules.specs.Dates.{shown}
use Rattle.slow_rules.specs.Rounds.{period_flag}
use Rattle.slow_rules.proofs.periods.round.Given as goal

abbrev pub invariant-loop-period : goal.invariant-loop-period
invariant-loop-period l = l.flags.items ≡ map (period_flag l.before (shown l.time)) (take l.period-index l.periods)
