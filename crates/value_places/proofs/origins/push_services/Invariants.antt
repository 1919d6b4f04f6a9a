use Rattle.std.proofs.Common.{◌≡◌, ◌++◌, flat_map}
use Rattle.std.specs.List.{range_with_len}
use Rattle.value_places.specs.Origins.{services_at}
use Rattle.value_places.proofs.origins.push_services.Given as goal

-- The services of the blocks so far came.
abbrev pub invariant-loop-number : goal.invariant-loop-number
invariant-loop-number l = l.origins.items ≡ l.fn.origins.items ++ flat_map (services_at l.hosts l.places l.lists) (range_with_len 0 l.number)
