use Rattle.std.proofs.Common.{take}
use Rattle.object_reached.specs.Listed.{IsOn, OfSome}
use Rattle.object_listing.specs.Listing.{Adds}
use Rattle.object_reached.proofs.numbers.push_each.Given as goal

-- The services of the hosts so far.
abbrev pub invariant-loop-host : goal.invariant-loop-host
invariant-loop-host l = Adds (OfSome (IsOn l.services l.descriptions) (take l.host-index l.hosts)) l.initial.found.items l.found.items
