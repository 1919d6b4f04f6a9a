use Rattle.std.proofs.Common.{◌≡◌, ◌++◌, replicate}
use Rattle.object_service_groups.proofs.owners.push_block.Given as goal

-- The services so far.
abbrev pub invariant-loop-service : goal.invariant-loop-service
invariant-loop-service l = l.owners.items ≡ l.initial.owners.items ++ replicate l._service l.number
