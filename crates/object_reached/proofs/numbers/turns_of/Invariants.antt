use Rattle.std.proofs.Common.{◌≤◌, length, take}
use Rattle.std.specs.Prelude.{All}
use Rattle.object_reached.specs.Services.{services_on}
use Rattle.object_reached.proofs.numbers.turns_of.Given as goal

-- None of the hosts so far has more services than the most.
abbrev pub invariant-loop-host : goal.invariant-loop-host
invariant-loop-host l = All (λ host. length (services_on l.services host) ≤ l.most) (take l.host-index l.hosts)
