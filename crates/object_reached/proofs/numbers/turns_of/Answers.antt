use Rattle.std.proofs.Common.{◌≤◌, List, length, subst, take_all, ℕ}
use Rattle.std.specs.Prelude.{All}
use Rattle.object_reached.specs.Services.{services_on}
use Rattle.object_reached.proofs.numbers.turns_of.Goals as goal

pub returns-then-saturating_mul-all : goal.returns-then-saturating_mul-all
returns-then-saturating_mul-all c = subst (λ (hosts : List ℕ). All (λ host. length (services_on c.args.services.now host) ≤ c.loop-host.most) hosts)
    (take_all c.loop-host.host-index c.args.hosts.now c.loop-host-test.false) c.loop-host.invariant
