use Rattle.std.proofs.Common.{◌≡◌}
use Rattle.object_reached.specs.Services.{host_edges, hosts_in}
use Rattle.object_services.specs.Numbers.{pairs_in}
use Rattle.object_reached.proofs.services.edges_of.Given as goal

-- The edges to the services so far.
abbrev pub invariant-loop-service : goal.invariant-loop-service
invariant-loop-service l = l.edges.items ≡ host_edges (hosts_in (pairs_in l.pairs)) l.service
