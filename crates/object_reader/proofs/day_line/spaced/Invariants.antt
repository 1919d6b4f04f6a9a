use Rattle.std.proofs.Common.{◌≡◌, ◌++◌, length}
use Rattle.object_reader.specs.DayLines.{spaced}
use Rattle.object_reader.proofs.day_line.spaced.Given as goal

abbrev pub invariant-loop-left : goal.invariant-loop-left
invariant-loop-left l = spaced l.words ≡ l.name.items ++ spaced l.left

abbrev pub decreases-loop-left : goal.decreases-loop-left
decreases-loop-left l = length l.left
