use Rattle.std.proofs.Common.{List, ap, map, sym, take_all, ◌++◌, ◌∙◌, ℕ}
use Rattle.std.proofs.lemmas.List.{append-nil}
use Rattle.value_places.specs.Origins.{service_origin}
use Rattle.value_places.proofs.OriginLemmas.{made-more}
use Rattle.value_places.proofs.origins.push_services_at.Goals as goal

pub loop-number-init : goal.loop-number-init
loop-number-init c = sym (append-nil c.args.origins.now.items)

pub loop-number-preserved : goal.loop-number-preserved
loop-number-preserved c =
    made-more (service_origin c.args.hosts.now c.args.place) c.args.numbers.now c.loop-number.number-index c.args.origins.now.items c.loop-number.origins.items _ _ c.loop-number-test.true
    c.loop-number.invariant c.service_origin.ensures c.in_ok-push.ensures.items

pub returns : goal.returns
returns c =
    c.loop-number.invariant ∙ ap (λ (numbers : List ℕ). c.args.origins.now.items ++ map (service_origin c.args.hosts.now c.args.place) numbers)
    (take_all c.loop-number.number-index c.args.numbers.now c.loop-number-test.false)
