use Rattle.std.proofs.Common.{◌≡◌, ◌++◌, drop}
use Rattle.messages.specs.Entries.{suppressions_in}
use Rattle.decider.specs.Log.{HasRoomFor}
use Rattle.decider.proofs.log.note.Given as goal

abbrev pub invariant-loop-entry : goal.invariant-loop-entry
invariant-loop-entry l = record {
  room : HasRoomFor l.log (drop l.entry-index l.entries);
  noted : l.log.lines ++ suppressions_in (drop l.entry-index l.entries) ≡ l.fn.log.lines ++ suppressions_in l.entries;
}
