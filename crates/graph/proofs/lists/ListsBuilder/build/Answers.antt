use Rattle.std.proofs.Common.{◌∙◌, arith, length, ap, subst, take}
use Rattle.std.specs.Prelude.{sum}
use Rattle.graph.specs.Lists.{AreInPlace}
use Rattle.graph.proofs.PushedLemmas.{sum-all, AreInPlace-none, AreInPlace-kept}
use Rattle.graph.proofs.lists.ListsBuilder.build.Goals as goal

pub sum_up-requires : goal.sum_up-requires
sum_up-requires g c =
    let counts = c.self.inside.counts.items in
    rw c.as_mut_slice-places.ensures.value (omega (arith, sum-all c.self.inside.pushed.items counts c.self.invariant, c.self.inside.pushed.ok.0))

pub place_each-requires-clause-free : goal.place_each-requires-clause-free
place_each-requires-clause-free g c =
    rw c.as_slice-2.ensures.value (AreInPlace-none c.self.inside.pushed.items c.self.inside.counts.items c.sum_up.new.counts c.as_mut_slice.result.now c.self.invariant
    (c.sum_up.auto.counts ∙ ap (λ counts. length counts) c.as_mut_slice-places.ensures.value)
    (ap (λ values. length values) c.as_mut_slice.ensures.value ∙ c.in_ok-values.ensures ∙ ap (λ pushed. length pushed) c.as_slice.ensures.value)
    (λ k low. c.sum_up.ensures k low ∙ ap (λ counts. sum (take k counts)) c.as_mut_slice-places.ensures.value))

pub invariant_of-result : goal.invariant_of-result
invariant_of-result g c =
    (AreInPlace-kept c.self.inside.pushed.items c.self.inside.counts c.in_ok-values.values c.place_each.new.places c.place_each.new.values c.self.invariant
    (c.place_each.auto.places ∙ c.sum_up.auto.counts ∙ c.as_mut_slice-places.ensures.len) (c.place_each.auto.values ∙ c.as_mut_slice.ensures.len)
    (subst (λ pushed. AreInPlace pushed pushed c.place_each.new.places c.place_each.new.values) c.as_slice-2.ensures.value c.place_each.ensures)).0

pub returns : goal.returns
returns g c =
    (AreInPlace-kept c.self.inside.pushed.items c.self.inside.counts c.in_ok-values.values c.place_each.new.places c.place_each.new.values c.self.invariant
    (c.place_each.auto.places ∙ c.sum_up.auto.counts ∙ c.as_mut_slice-places.ensures.len) (c.place_each.auto.values ∙ c.as_mut_slice.ensures.len)
    (subst (λ pushed. AreInPlace pushed pushed c.place_each.new.places c.place_each.new.values) c.as_slice-2.ensures.value c.place_each.ensures)).1
    ∙ c.self.view_is
