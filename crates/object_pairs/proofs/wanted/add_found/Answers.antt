use Rattle.std.proofs.Common.{List, subst, take_all, ℕ}
use Rattle.object_pairs.specs.Wanted.{AddsFound}
use Rattle.object_pairs.proofs.FoundLemmas.{adds-none, hosts-more}
use Rattle.object_pairs.proofs.wanted.add_found.Goals as goal

pub loop-host-init : goal.loop-host-init
loop-host-init c = adds-none c.args.wanted.now.keys c.args.description.now c.args.found.now.keys

pub loop-host-preserved : goal.loop-host-preserved
loop-host-preserved c =
    hosts-more c.args.wanted.now.keys c.args.description.now c.args.hosts.now c.loop-host.host-index 0 c.args.found.now.keys c.loop-host.found.keys c.add_if_wanted.new.found.keys c.loop-host-test.true
    c.loop-host.invariant c.in_ok-add_if_wanted.ensures

pub returns : goal.returns
returns c =
    subst (λ (hosts : List ℕ). AddsFound c.args.wanted.now.keys c.args.description.now hosts c.args.found.now.keys c.loop-host.found.keys)
    (take_all c.loop-host.host-index c.args.hosts.now c.loop-host-test.false) c.loop-host.invariant
