use Rattle.std.proofs.Common.{List, rules, subst, sym}
use Rattle.std.specs.List.Sorted.{IsNonDecreasingBy, IsPermutation}
use Rattle.std.proofs.lemmas.List.Sorted.{IsNonDecreasingBy-from_sort_by_key}
use Rattle.std.proofs.lemmas.Result.{IfOk-weaker}
use Rattle.due_model.specs.declared.config.Range.{Range}
use Rattle.time_period.proofs.SweepLemmas.{same_day, start_of}
use Rattle.time_period.proofs.made_day.merged.Goals as goal

pub joined-requires : goal.joined-requires
joined-requires c =
    let sorted = IsNonDecreasingBy-from_sort_by_key start_of _ c.sort_unstable_by_key.ensures.sorted (λ a r q k. search rules) in
    subst (IsNonDecreasingBy start_of) (sym c.as_slice.ensures.value) sorted

pub returns : goal.returns
returns c =
    let moved = subst (λ (ranges : List Range). IsPermutation c.in_ok-sorted.sorted.items ranges) (sym c.as_slice.ensures.value) c.sort_unstable_by_key.ensures.permutation in
    let of_own = subst (λ (ranges : List Range). IsPermutation ranges c.as_slice.result.now) c.in_ok-sorted.ensures.items moved in
    IfOk-weaker c.joined.result _ _ (λ day is. same_day c.args.own.now c.as_slice.result.now day.items of_own is) c.joined.ensures
