use Rattle.std.proofs.Common.{◌≡◌, take}
use Rattle.object_services.proofs.DoubledLemmas.{AreFound}
use Rattle.object_services.proofs.doubled.find_all.Given as goal

-- The hosts so far are found, and none of them was found before.
abbrev pub invariant-loop-host : goal.invariant-loop-host
invariant-loop-host l = record {
  nodes : l.seen.nodes ≡ l.initial.seen.nodes;
  found : AreFound l.initial.seen.found (take l.host-index l.hosts) l.seen.found;
}
