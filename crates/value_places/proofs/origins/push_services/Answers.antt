use Rattle.std.proofs.Common.{◌≡◌, length, arith, ap, flat_map, refl, sym, ◌++◌, ◌∙◌, ℕ}
use Rattle.std.specs.List.{range_with_len}
use Rattle.std.proofs.lemmas.List.{append-nil}
use Rattle.value_places.specs.Origins.{services_at}
use Rattle.value_places.proofs.OriginLemmas.{services-more}
use Rattle.value_places.proofs.origins.push_services.Goals as goal

pub loop-number-init : goal.loop-number-init
loop-number-init c = sym (append-nil c.args.origins.now.items)

pub loop-number-preserved : goal.loop-number-preserved
loop-number-preserved c =
    let number = c.loop-number.number in
    services-more c.args.hosts.now c.args.places.now c.args.lists.now number c.args.origins.now.items c.loop-number.origins.items _ _ c.hosts.result.now
    c.loop-number.invariant refl c.hosts.ensures c.in_ok-push_services_at.ensures

pub returns : goal.returns
returns c =
    let end : c.loop-number.number ≡ length c.args.places.now = omega (arith, c.loop-number-test.false, c.loop-number.auto.number-end) in
    c.loop-number.invariant ∙ ap (λ (n : ℕ). c.args.origins.now.items ++ flat_map (services_at c.args.hosts.now c.args.places.now c.args.lists.now) (range_with_len 0 n)) end
