use Rattle.std.proofs.Common.{List, [], ap, map, refl, take_all, ◌∙◌, ℕ}
use Rattle.value_places.specs.Origins.{host_origin}
use Rattle.value_places.proofs.OriginLemmas.{made-more}
use Rattle.value_places.proofs.origins.host_origins.Goals as goal

pub loop-place-init : goal.loop-place-init
loop-place-init c = c.in_ok-origins.ensures.items

pub loop-place-preserved : goal.loop-place-preserved
loop-place-preserved c =
    made-more host_origin c.args.places.now c.loop-place.place-index [] c.loop-place.origins.items _ _ c.loop-place-test.true c.loop-place.invariant refl c.in_ok-push.ensures.items

pub returns : goal.returns
returns c = c.loop-place.invariant ∙ ap (λ (places : List ℕ). map host_origin places) (take_all c.loop-place.place-index c.args.places.now c.loop-place-test.false)
