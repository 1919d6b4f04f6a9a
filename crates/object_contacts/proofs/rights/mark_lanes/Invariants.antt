use Rattle.std.proofs.Common.{◌≡◌, length, take}
use Rattle.object_contacts.specs.claims.Lanes.{NamesLane}
use Rattle.object_contacts.specs.Marks.{Marks}
use Rattle.object_contacts.proofs.rights.mark_lanes.Given as goal
use Rattle.object_values.specs.Values.{texts}

-- The lanes that the entries so far name are marked.
abbrev pub invariant-loop-entry : goal.invariant-loop-entry
invariant-loop-entry l = record {
  long : length l.marks ≡ length l.initial.marks;
  marked : Marks (NamesLane l.commands l.lanes (texts (take l.entry-index l.entries))) l.initial.marks l.marks;
}
