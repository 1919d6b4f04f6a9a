use Rattle.std.proofs.Common.{◌≡◌, ◌++◌}
use Rattle.object_groups.specs.declared.lists.Direction.TheVariants.{ToNames}
use Rattle.object_groups.specs.ListEdges.{list_edges}
use Rattle.object_groups.specs.Shared.{wholes_of}
use Rattle.object_service_groups.specs.Pairs.{inner_nodes}
use Rattle.object_service_groups.proofs.members.push_inner.Given as goal

-- The edges of the shared lists so far.
abbrev pub invariant-loop-number : goal.invariant-loop-number
invariant-loop-number l = l.edges.items
    ≡ l.initial.edges.items
    ++ list_edges ToNames l.count l.number (inner_nodes l.hosts l.services l.values.blocks l.values.directive (wholes_of l.values.blocks l.values.directive l.lists) l.count l.lists)
