use Rattle.std.proofs.Common.{◌≡◌, ◌+◌, ◌++◌, map, take}
use Rattle.object_groups.specs.declared.lists.Direction.TheVariants.{ToNames}
use Rattle.object_groups.specs.ListEdges.{between}
use Rattle.object_dependency_loops.proofs.base.push_ends.Given as goal

-- The edges to the ends so far.
abbrev pub invariant-loop-end : goal.invariant-loop-end
invariant-loop-end l = l.edges.items
    ≡ l.initial.edges.items ++ map (between ToNames l.node) (map (λ end. l.by + end) (take l.end-index l.ends))
