use Rattle.std.proofs.Common.{◌≡◌, drop}
use Rattle.night_marks.specs.Counts.{least_of, mark_objects}
use Rattle.night_marks.proofs.counts.Counts.least_of_marks.Given as goal

abbrev pub invariant-loop-mark : goal.invariant-loop-mark
invariant-loop-mark l =
    least_of l.self l.least (mark_objects (drop l.mark-index l.marks)) ≡ least_of l.self l.fn.first (mark_objects l.marks)
