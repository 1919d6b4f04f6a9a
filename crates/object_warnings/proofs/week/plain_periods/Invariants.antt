use Rattle.std.proofs.Common.{◌≡◌, map, take}
use Rattle.object_warnings.specs.Hours.{plain}
use Rattle.object_warnings.proofs.week.plain_periods.Given as goal

-- The copies so far.
abbrev pub invariant-loop-period : goal.invariant-loop-period
invariant-loop-period l = l.copies.items ≡ map plain (take l.period-index l.periods)
