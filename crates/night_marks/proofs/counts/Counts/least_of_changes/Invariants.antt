use Rattle.std.proofs.Common.{◌≡◌, drop}
use Rattle.night_marks.specs.Counts.{change_objects, least_of}
use Rattle.night_marks.proofs.counts.Counts.least_of_changes.Given as goal

abbrev pub invariant-loop-change : goal.invariant-loop-change
invariant-loop-change l =
    least_of l.self l.least (change_objects (drop l.change-index l.changes)) ≡ least_of l.self l.fn.first (change_objects l.changes)
