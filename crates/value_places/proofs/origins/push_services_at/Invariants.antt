use Rattle.std.proofs.Common.{◌≡◌, ◌++◌, map, take}
use Rattle.value_places.specs.Origins.{service_origin}
use Rattle.value_places.proofs.origins.push_services_at.Given as goal

-- The services so far came.
abbrev pub invariant-loop-number : goal.invariant-loop-number
invariant-loop-number l = l.origins.items ≡ l.fn.origins.items ++ map (service_origin l.hosts l.place) (take l.number-index l.numbers)
