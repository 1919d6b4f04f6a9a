use Rattle.std.proofs.Common.{◌≡◌, ◌++◌}
use Rattle.object_groups.specs.declared.lists.Direction.TheVariants.{ToNames}
use Rattle.object_groups.specs.ListEdges.{list_edges}
use Rattle.object_groups.specs.Shared.{wholes_of}
use Rattle.object_service_groups.specs.Pairs.{top_nodes}
use Rattle.object_service_groups.proofs.members.push_tops.Given as goal

-- The edges of the lists so far.
abbrev pub invariant-loop-group : goal.invariant-loop-group
invariant-loop-group l = l.edges.items
    ≡ l.initial.edges.items
    ++ list_edges ToNames l.first l.group (top_nodes l.hosts l.services l.values.blocks l.values.directive (wholes_of l.values.blocks l.values.directive l.shared.lists.items) l.count l.places l.shared.parts.items)
