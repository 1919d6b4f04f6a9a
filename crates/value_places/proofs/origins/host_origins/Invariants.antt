use Rattle.std.proofs.Common.{◌≡◌, map, take}
use Rattle.value_places.specs.Origins.{host_origin}
use Rattle.value_places.proofs.origins.host_origins.Given as goal

-- The hosts so far.
abbrev pub invariant-loop-place : goal.invariant-loop-place
invariant-loop-place l = l.origins.items ≡ map host_origin (take l.place-index l.places)
