use Rattle.std.proofs.Common.{◌≡◌, ◌∙◌, List, Option, get_or, refl, subst, take_all, true, ℕ}
use Rattle.object_groups.specs.claims.First.{IsFirst}
use Rattle.object_unknown_services.specs.Unknown.{is_before, LacksAmong, LacksAt, ListsUnstamped}
use Rattle.object_unknown_services.proofs.UnknownLemmas.{places-more, places-none}
use Rattle.object_unknown_services.proofs.unknown.first_lacking.Goals as goal

pub loop-place-init : goal.loop-place-init
loop-place-init c = record {
  same = refl;
  lowest = places-none (λ at. is_before c.args.first at ≡ true) (ListsUnstamped c.args.naming.now.blocks c.args.naming.now.role c.args.stamps.now c.args.stamp);
}

pub loop-place-preserved : goal.loop-place-preserved
loop-place-preserved c = record {
  same = c.if_lacks.ensures.same ∙ c.loop-place.invariant.same;
  lowest = places-more (ListsUnstamped c.args.naming.now.blocks c.args.naming.now.role c.args.stamps.now c.args.stamp) c.args.places.now c.loop-place.place-index c.args.first c.loop-place.lowest
      c.in_ok-lacking.lacking c.lower-lowest.result c.loop-place-test.true c.lower-lowest.ensures c.loop-place.invariant.lowest
      (subst (λ (before : Option ℕ). IsFirst (λ at. (is_before before at ≡ true) × LacksAt c.args.naming.now.blocks c.args.naming.now.role c.args.stamps.now c.args.stamp (get_or c.args.places.now c.loop-place.place-index 0) at) c.in_ok-lacking.lacking)
      c.lower-before.ensures c.in_ok-lacking.ensures.first);
}

pub returns-clause-first : goal.returns-clause-first
returns-clause-first c =
    subst (λ (ps : List ℕ). IsFirst (λ at. (is_before c.args.first at ≡ true) × LacksAmong c.args.naming.now.blocks c.args.naming.now.role c.args.stamps.now c.args.stamp ps at) c.loop-place.lowest)
    (take_all c.loop-place.place-index c.args.places.now c.loop-place-test.false) c.loop-place.invariant.lowest
