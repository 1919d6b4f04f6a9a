use Rattle.std.proofs.Common.{◌≡◌, ◌+◌, ◌++◌, map}
use Rattle.std.specs.Prelude.{slice_index_or}
use Rattle.std.specs.List.{range_with_len}
use Rattle.object_groups.specs.ListEdges.{edge}
use Rattle.object_service_groups.proofs.nodes.push_owners.Given as goal

-- The edges of the services so far.
abbrev pub invariant-loop-service : goal.invariant-loop-service
invariant-loop-service l = l.edges.items
    ≡ l.initial.edges.items ++ map (λ service. edge (l.middle + slice_index_or l.owners service 0) service) (range_with_len 0 l.service)
