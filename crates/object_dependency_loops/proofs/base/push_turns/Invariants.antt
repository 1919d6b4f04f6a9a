use Rattle.std.proofs.Common.{◌≡◌, ◌++◌}
use Rattle.object_dependency_loops.specs.Base.{turn_edges}
use Rattle.object_dependency_loops.proofs.base.push_turns.Given as goal

-- The edges of the nodes so far.
abbrev pub invariant-loop-number : goal.invariant-loop-number
invariant-loop-number l = l.edges.items ≡ l.initial.edges.items ++ turn_edges l.from l.to l.number
