use Rattle.std.proofs.Common.{length, reverse, ◌<◌}
use Rattle.std.specs.Prelude.{IfSome}
use Rattle.object_groups.specs.Shared.{AreFound, Grows, IsChain, list_before, wholes_of}
use Rattle.object_groups.proofs.shared.number_of.Given as goal

-- The blocks that are left come after the list of the number.
abbrev pub invariant-loop-at : goal.invariant-loop-at
invariant-loop-at l = record {
  found : AreFound l.values.blocks l.values.directive l.found.numbers.entries l.found.lists.items;
  grows : Grows l.fn.found.lists.items l.found.lists.items;
  within : IfSome l.before (λ other. other < length (wholes_of l.values.blocks l.values.directive l.found.lists.items));
  chain : IsChain l.values.blocks l.values.directive (reverse l.places.items) l.fn.place (list_before (wholes_of l.values.blocks l.values.directive l.found.lists.items) l.before);
}

abbrev pub decreases-loop-at : goal.decreases-loop-at
decreases-loop-at l = length l.places.items
