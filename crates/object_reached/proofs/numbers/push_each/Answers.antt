use Rattle.std.proofs.Common.{List, subst, take, take_all, ℕ}
use Rattle.std.proofs.lemmas.List.{take_more}
use Rattle.object_reached.specs.Listed.{IsOn, OfSome}
use Rattle.object_listing.specs.Listing.{Adds}
use Rattle.object_reached.proofs.AddsLemmas.{adds-next, adds-none}
use Rattle.object_reached.proofs.numbers.push_each.Goals as goal

pub loop-host-init : goal.loop-host-init
loop-host-init c = adds-none (IsOn c.args.services.now c.args.descriptions.now) c.args.found.now.items

pub loop-host-preserved : goal.loop-host-preserved
loop-host-preserved c =
    adds-next (IsOn c.args.services.now c.args.descriptions.now) (take c.loop-host.host-index c.args.hosts.now) _ _ c.args.found.now.items c.loop-host.found.items c.push_host.new.found.items
    (take_more c.args.hosts.now c.loop-host.host-index 0 c.loop-host-test.true) c.loop-host.invariant c.in_ok-push_host.ensures

pub returns : goal.returns
returns c = subst (λ (hosts : List ℕ). Adds (OfSome (IsOn c.args.services.now c.args.descriptions.now) hosts) c.args.found.now.items c.loop-host.found.items)
    (take_all c.loop-host.host-index c.args.hosts.now c.loop-host-test.false) c.loop-host.invariant
