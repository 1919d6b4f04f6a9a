use Rattle.std.proofs.Common.{◌≡◌, ◌++◌, map, take}
use Rattle.object_groups.specs.ListEdges.{edge}
use Rattle.object_service_groups.proofs.members.push_services.Given as goal

-- The edges of the services so far.
abbrev pub invariant-loop-service : goal.invariant-loop-service
invariant-loop-service l = l.edges.items ≡ l.initial.edges.items ++ map (edge l.from) (take l.service-index l.services)
