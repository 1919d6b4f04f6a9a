use Rattle.std.proofs.Common.{◌≡◌, length, take}
use Rattle.object_contacts.specs.claims.Lanes.{NamesCommand}
use Rattle.object_contacts.specs.Lanes.{AreRead}
use Rattle.object_contacts.specs.Marks.{Marks, OfSome}
use Rattle.object_contacts.proofs.lanes.mark_used_for.Given as goal
use Rattle.object_groups.specs.claims.Objects.{list_at}

-- The commands that the lists of the blocks so far name are marked.
abbrev pub invariant-loop-place : goal.invariant-loop-place
invariant-loop-place l = record {
  long : length l.marks ≡ length l.initial.marks;
  marked : Marks (OfSome (λ place. NamesCommand l.commands (list_at l.values.blocks l.values.directive place)) (take l.place-index l.places)) l.initial.marks l.marks;
  read : AreRead l.commands l.values l.read.items l.marks;
}
