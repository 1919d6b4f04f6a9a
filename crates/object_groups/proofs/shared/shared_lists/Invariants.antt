use Rattle.std.proofs.Common.{◌≡◌, length}
use Rattle.object_groups.specs.Shared.{AreFound, HaveParts, wholes_of}
use Rattle.object_groups.proofs.shared.shared_lists.Given as goal

-- The lists so far, and the parts of the lists of the blocks so far.
abbrev pub invariant-loop-place : goal.invariant-loop-place
invariant-loop-place l = record {
  found : AreFound l.values.blocks l.values.directive l.found.numbers.entries l.found.lists.items;
  long : length l.parts.items ≡ l.place-index;
  have : HaveParts l.values.blocks l.values.directive (wholes_of l.values.blocks l.values.directive l.found.lists.items) l.places l.parts.items;
}
