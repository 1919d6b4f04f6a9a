use Rattle.std.proofs.Common.{◌-◌}
use Rattle.due_model.specs.claims.Limits.{day}
use Rattle.time_period.specs.Days.{IsMade, holds_without}
use Rattle.time_period.proofs.made_day.without.Given as goal

abbrev pub invariant-loop-start : goal.invariant-loop-start
invariant-loop-start l = IsMade (holds_without l.own l.excludes l.done l.weekday) l.start l.day.items

abbrev pub decreases-loop-start : goal.decreases-loop-start
decreases-loop-start l = day - l.start
