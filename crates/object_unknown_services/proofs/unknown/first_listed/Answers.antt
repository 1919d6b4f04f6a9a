use Rattle.std.proofs.Common.{◌≡◌, ◌∙◌, [], List, Option, get_or, refl, subst, take_all, true, ℕ}
use Rattle.object_groups.specs.claims.First.{IsFirst}
use Rattle.object_unknown_services.specs.Unknown.{is_before, LacksAmong, LacksIn}
use Rattle.object_unknown_services.proofs.UnknownLemmas.{lists-more, lists-none}
use Rattle.object_unknown_services.proofs.unknown.first_listed.Goals as goal

pub loop-number-init : goal.loop-number-init
loop-number-init c = record {
  same = refl;
  lowest = lists-none c.args.naming.now.blocks c.args.naming.now.role c.args.stamps.now c.args.stamp c.args.lists.now c.args.first;
}

pub loop-number-preserved : goal.loop-number-preserved
loop-number-preserved c =
    let blocks = c.args.naming.now.blocks in
    let role = c.args.naming.now.role in
    let lists = c.args.lists.now in
    let number : ℕ = get_or c.args.numbers.now c.loop-number.number-index 0 in
    record {
      same = c.first_lacking.ensures.same ∙ c.loop-number.invariant.same;
      lowest = lists-more blocks role c.args.stamps.now c.args.stamp lists c.args.numbers.now c.loop-number.number-index c.args.first c.loop-number.lowest c.in_ok-lacking.lacking c.lower-lowest.result
          c.loop-number-test.true c.lower-lowest.ensures c.loop-number.invariant.lowest
          (subst (λ (before : Option ℕ). IsFirst (λ at. (is_before before at ≡ true) × LacksAmong blocks role c.args.stamps.now c.args.stamp (get_or lists number []) at) c.in_ok-lacking.lacking)
          c.lower-before.ensures
          (subst (λ (ps : List ℕ). IsFirst (λ at. (is_before c.lower-before.result at ≡ true) × LacksAmong blocks role c.args.stamps.now c.args.stamp ps at) c.in_ok-lacking.lacking)
          c.get-places.ensures c.in_ok-lacking.ensures.first));
    }

pub returns-clause-first : goal.returns-clause-first
returns-clause-first c =
    subst (λ (ns : List ℕ). IsFirst (λ at. (is_before c.args.first at ≡ true) × LacksIn c.args.naming.now.blocks c.args.naming.now.role c.args.stamps.now c.args.stamp c.args.lists.now ns at) c.loop-number.lowest)
    (take_all c.loop-number.number-index c.args.numbers.now c.loop-number-test.false) c.loop-number.invariant.lowest
