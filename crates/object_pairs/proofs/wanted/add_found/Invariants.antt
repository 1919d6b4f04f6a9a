use Rattle.std.proofs.Common.{take}
use Rattle.object_pairs.specs.Wanted.{AddsFound}
use Rattle.object_pairs.proofs.wanted.add_found.Given as goal

-- Those of the hosts so far came to what was found.
abbrev pub invariant-loop-host : goal.invariant-loop-host
invariant-loop-host l = AddsFound l.wanted.keys l.description (take l.host-index l.hosts) l.initial.found.keys l.found.keys
