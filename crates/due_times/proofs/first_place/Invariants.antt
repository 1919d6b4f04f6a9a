use Rattle.std.proofs.Common.{◌-◌, length}
use Rattle.due_times.specs.Index.{IsFirst}
use Rattle.due_times.specs.Levels.{level}
use Rattle.due_times.proofs.first_place.Given as goal

abbrev pub invariant-loop-step : goal.invariant-loop-step
invariant-loop-step l = IsFirst (level l.levels (length l.levels - l.step)) l.place l.moment
