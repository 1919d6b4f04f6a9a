use Rattle.std.proofs.Common.{◌≡◌, drop}
use Rattle.night_marks.specs.Night.{told_entries}
use Rattle.night_marks.proofs.night.Night.tell.Given as goal

abbrev pub invariant-loop-entry : goal.invariant-loop-entry
invariant-loop-entry l = told_entries l.self (drop l.entry-index l.entries) ≡ told_entries l.fn.self l.entries
