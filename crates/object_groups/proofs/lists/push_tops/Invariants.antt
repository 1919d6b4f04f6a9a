use Rattle.std.proofs.Common.{◌≡◌, ◌++◌}
use Rattle.object_groups.specs.ListEdges.{list_edges, top_nodes}
use Rattle.object_groups.proofs.lists.push_tops.Given as goal

-- The edges of the lists so far.
abbrev pub invariant-loop-number : goal.invariant-loop-number
invariant-loop-number l = l.edges.items
    ≡ l.initial.edges.items ++ list_edges l.nodes.direction l.nodes.node l.number (top_nodes l.names l.values.blocks l.values.directive l.nodes l.places l.shared.parts.items)
