use Rattle.std.proofs.Common.{◌≡◌, ◌+◌, ◌++◌, map, take}
use Rattle.object_groups.specs.declared.lists.Direction.TheVariants.{ToNames}
use Rattle.object_groups.specs.ListEdges.{between}
use Rattle.object_dependency_loops.proofs.described.push_services.Given as goal

-- The edges to the services so far.
abbrev pub invariant-loop-service : goal.invariant-loop-service
invariant-loop-service l = l.edges.items
    ≡ l.initial.edges.items ++ map (between ToNames l.node) (map (λ service. l.first + service) (take l.service-index l.services))
