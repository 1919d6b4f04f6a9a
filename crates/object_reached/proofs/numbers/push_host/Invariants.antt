use Rattle.std.proofs.Common.{◌≡◌, ◌++◌, filter, take}
use Rattle.object_reached.specs.Listed.{is_named_at}
use Rattle.object_reached.proofs.numbers.push_host.Given as goal

-- Those of the services so far whose descriptions the list names.
abbrev pub invariant-loop-service : goal.invariant-loop-service
invariant-loop-service l = l.found.items
    ≡ l.initial.found.items ++ filter (is_named_at l.services l.descriptions) (take l.service-index l.service-items)
