use Rattle.std.proofs.Common.{◌≡◌, length, take}
use Rattle.object_dependency_loops.specs.Apart.{AreMarked}
use Rattle.object_dependency_loops.proofs.apart.marks_of.Given as goal

-- The nodes so far are marked.
abbrev pub invariant-loop-node : goal.invariant-loop-node
invariant-loop-node l = record {
  long : length l.marks.items ≡ l.count;
  marked : AreMarked l.marks.items (take l.node-index l.nodes);
}
