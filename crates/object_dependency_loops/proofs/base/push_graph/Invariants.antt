use Rattle.std.proofs.Common.{◌≡◌, ◌++◌}
use Rattle.object_groups.specs.declared.lists.Direction.TheVariants.{ToNames}
use Rattle.object_groups.specs.ListEdges.{list_edges}
use Rattle.object_dependency_loops.specs.Base.{moved_ends}
use Rattle.object_dependency_loops.proofs.base.push_graph.Given as goal

-- The edges of the nodes so far.
abbrev pub invariant-loop-node : goal.invariant-loop-node
invariant-loop-node l = l.edges.items ≡ l.initial.edges.items ++ list_edges ToNames l.by l.node (moved_ends l.by l.graph)
