use Rattle.std.proofs.Common.{◌≡◌, filter, nat_lt, take}
use Rattle.object_service_groups.proofs.groups.services_among.Given as goal

-- The services among the nodes so far.
abbrev pub invariant-loop-node : goal.invariant-loop-node
invariant-loop-node l = l.found.items ≡ filter (λ node. nat_lt node l.services) (take l.node-index l.nodes)
