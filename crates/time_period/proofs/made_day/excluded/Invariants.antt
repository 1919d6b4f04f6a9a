use Rattle.std.proofs.Common.{take}
use Rattle.time_period.specs.Days.{holds_any}
use Rattle.time_period.specs.Stretches.{IsStretch}
use Rattle.time_period.proofs.made_day.excluded.Given as goal

abbrev pub invariant-loop-period : goal.invariant-loop-period
invariant-loop-period l = IsStretch (λ k. holds_any (take l.period-index l.excludes) l.done l.weekday k) l.second l.stretch
