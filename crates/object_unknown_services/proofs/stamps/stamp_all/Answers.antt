use Rattle.std.proofs.Common.{◌∙◌, List, subst, ℕ}
use Rattle.std.specs.Prelude.{Contains}
use Rattle.object_unknown_services.specs.Stamps.{Stamped}
use Rattle.object_unknown_services.proofs.StampLemmas.{all-more}
use Rattle.object_unknown_services.proofs.stamps.stamp_all.Goals as goal

pub loop-place-preserved : goal.loop-place-preserved
loop-place-preserved c = record {
  same = c.hosts_at.ensures.same ∙ c.loop-place.invariant.same;
  stamped = all-more c.args.services.now c.args.stamp c.args.places.now c.loop-place.place-index _ c.loop-place.stamps c.stamp_each.new.stamps c.in_ok-found.found.items
      c.loop-place-test.true c.in_ok-found.ensures.hosts c.loop-place.invariant.stamped
      (subst (λ (hs : List ℕ). Stamped (Contains hs) c.args.stamp c.loop-place.stamps c.stamp_each.new.stamps) c.as_slice.ensures.value c.stamp_each.ensures);
}
