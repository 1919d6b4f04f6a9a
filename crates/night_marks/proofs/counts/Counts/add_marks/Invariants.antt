use Rattle.std.proofs.Common.{◌≡◌, drop}
use Rattle.night_marks.specs.Counts.{counted_on, mark_objects}
use Rattle.night_marks.proofs.counts.Counts.add_marks.Given as goal

abbrev pub invariant-loop-mark : goal.invariant-loop-mark
invariant-loop-mark l =
    counted_on l.self (mark_objects (drop l.mark-index l.marks)) ≡ counted_on l.fn.self (mark_objects l.marks)
