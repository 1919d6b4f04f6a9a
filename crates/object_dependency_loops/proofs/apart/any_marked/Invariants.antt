use Rattle.std.proofs.Common.{take}
use Rattle.object_dependency_loops.specs.Apart.{NoneIsMarked}
use Rattle.object_dependency_loops.proofs.apart.any_marked.Given as goal

-- None of the nodes so far is marked.
abbrev pub invariant-loop-node : goal.invariant-loop-node
invariant-loop-node l = NoneIsMarked l.marks (take l.node-index l.nodes)
