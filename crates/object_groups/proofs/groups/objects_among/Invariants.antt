use Rattle.std.proofs.Common.{◌≡◌, filter, nat_lt, take}
use Rattle.object_groups.proofs.groups.objects_among.Given as goal

-- The objects among the nodes so far.
abbrev pub invariant-loop-node : goal.invariant-loop-node
invariant-loop-node l = l.found.items ≡ filter (λ node. nat_lt node l.objects) (take l.node-index l.nodes)
