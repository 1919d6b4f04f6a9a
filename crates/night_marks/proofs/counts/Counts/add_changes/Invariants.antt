use Rattle.std.proofs.Common.{◌≡◌, drop}
use Rattle.night_marks.specs.Counts.{change_objects, counted_on}
use Rattle.night_marks.proofs.counts.Counts.add_changes.Given as goal

abbrev pub invariant-loop-change : goal.invariant-loop-change
invariant-loop-change l =
    counted_on l.self (change_objects (drop l.change-index l.changes)) ≡ counted_on l.fn.self (change_objects l.changes)
