use Rattle.std.proofs.Common.{◌≡◌, ◌+◌, ◌++◌, ◌<◌, ◌^◌, drop, map, take}
use Rattle.std.specs.Prelude.{All}
use Rattle.object_reached.proofs.reached.number_after.Given as goal

-- The services so far have their numbers, and the others are as they were.
abbrev pub invariant-loop-service : goal.invariant-loop-service
invariant-loop-service l = All (λ service. l.hosts + service < 2 ^ 32) l.fn.services
    → l.services ≡ map (λ service. l.hosts + service) (take l.service-index l.fn.services) ++ drop l.service-index l.fn.services
