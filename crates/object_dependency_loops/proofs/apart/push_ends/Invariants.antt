use Rattle.std.proofs.Common.{◌≡◌, ◌++◌, take}
use Rattle.object_dependency_loops.specs.Apart.{ends_from}
use Rattle.object_dependency_loops.proofs.apart.push_ends.Given as goal

-- The edges to the ends so far.
abbrev pub invariant-loop-side : goal.invariant-loop-side
invariant-loop-side l = l.edges.items ≡ l.initial.edges.items ++ ends_from l.node (take l.side-index l.sides)
