use Rattle.std.proofs.Common.{◌≡◌, ◌++◌}
use Rattle.object_groups.specs.ListEdges.{inner_nodes, list_edges}
use Rattle.object_groups.proofs.lists.push_inner.Given as goal

-- The edges of the shared lists so far.
abbrev pub invariant-loop-number : goal.invariant-loop-number
invariant-loop-number l = l.edges.items
    ≡ l.initial.edges.items ++ list_edges l.nodes.direction l.nodes.count l.number (inner_nodes l.names l.values.blocks l.values.directive l.nodes l.lists)
