use Rattle.std.proofs.Common.{◌++◌, ◌∙◌, List, ap, filter, take_all, ℕ}
use Rattle.object_reached.specs.Listed.{is_named_at}
use Rattle.object_reached.proofs.AddsLemmas.{adds-host, passed-more}
use Rattle.object_reached.proofs.numbers.push_host.Goals as goal

pub loop-service-preserved : goal.loop-service-preserved
loop-service-preserved c =
    passed-more (is_named_at c.args.services.now c.args.descriptions.now) c.args.found.now.items c.loop-service.found.items c.push_named.new.found.items c.of_host-service-items.result.now c.loop-service.service-index 0
    c.loop-service-test.true c.loop-service.invariant c.in_ok-push_named.ensures

pub returns : goal.returns
returns c =
    adds-host c.args.services.now c.args.descriptions.now c.args.host c.of_host-service-items.result.now c.args.found.now.items c.loop-service.found.items c.of_host-service-items.ensures.exactly
    (c.loop-service.invariant
    ∙ ap (λ (services : List ℕ). c.args.found.now.items ++ filter (is_named_at c.args.services.now c.args.descriptions.now) services)
    (take_all c.loop-service.service-index c.of_host-service-items.result.now c.loop-service-test.false))
