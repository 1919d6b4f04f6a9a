use Rattle.std.proofs.Common.{take}
use Rattle.object_reached.specs.Listed.{IsNthOn, OfSome}
use Rattle.object_listing.specs.Listing.{Adds}
use Rattle.object_reached.proofs.numbers.push_turn.Given as goal

-- Those of the hosts so far.
abbrev pub invariant-loop-host : goal.invariant-loop-host
invariant-loop-host l = Adds (OfSome (IsNthOn l.services l.descriptions l.turn) (take l.host-index l.hosts)) l.initial.found.items l.found.items
