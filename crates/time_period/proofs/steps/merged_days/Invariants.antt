use Rattle.std.proofs.Common.{take}
use Rattle.time_period.specs.Steps.{AreMerged}
use Rattle.time_period.proofs.steps.merged_days.Given as goal

abbrev pub invariant-loop-day : goal.invariant-loop-day
invariant-loop-day l = AreMerged (take l.day-index l.days) l.all.items
