use Rattle.std.proofs.Common.{take}
use Rattle.object_services.specs.Numbers.{HasPlaces, pairs_in}
use Rattle.object_services.proofs.numbers.ServiceNumbers.new.Given as goal

-- The places of the services so far.
abbrev pub invariant-loop-place : goal.invariant-loop-place
invariant-loop-place l = HasPlaces (pairs_in (take l.place l.pairs.items)) l.places.entries
