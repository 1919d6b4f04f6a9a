use Rattle.std.proofs.Common.{◌≡◌, ◌≤◌, List, length, ℕ}
use Rattle.object_reader.specs.declared.block.Block.{Block}
use Rattle.object_inheritance.specs.Columns.{HasGivenFrom, HasOwn, IsInherited}
use Rattle.object_inheritance.specs.Faults.{AreUses}
use Rattle.object_inheritance.proofs.inherited.with_inherited.Given as goal

-- The blocks from there on that others use have what is given to them.
abbrev pub invariant-loop-left : goal.invariant-loop-left
invariant-loop-left l = record {
  begun : l.left ≤ length l.order;
  long : length l.column.items ≡ length l.uses.graph;
  each : (blocks : List Block) (directive : List ℕ) → AreUses blocks l.uses → IsInherited blocks directive → HasOwn blocks directive l.initial.column.items
      → HasGivenFrom blocks directive l.uses l.left l.column.items;
}

abbrev pub decreases-loop-left : goal.decreases-loop-left
decreases-loop-left l = l.left
