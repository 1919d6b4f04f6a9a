use Rattle.std.proofs.Common.{◌∙◌, ◌<◌, All, filter, refl, rules}
use Rattle.std.specs.List.{range_with_len}
use Rattle.std.proofs.lemmas.List.Filters.{dedup_is}
use Rattle.std.proofs.lemmas.List.Sorted.{IsNonDecreasingBy-from_sort_by_key}
use Rattle.due_model.specs.claims.Escalations.{has_contact}
use Rattle.escalation.specs.Named.{contact_ids}
use Rattle.escalation.proofs.InOrderLemmas.{appended, in_order, number}
use Rattle.escalation.proofs.in_order.append_in_order.Goals as goal

pub returns-clause-appended : goal.returns-clause-appended
returns-clause-appended c =
    let named = c.args.named.items in
    let sorted = IsNonDecreasingBy-from_sort_by_key number _ c.sort_unstable_by_key.ensures.sorted (λ a r q k. search rules) in
    let is = dedup_is _ _ _ c.dedup.ensures.filtered in
    appended c.extend_from_slice.result (λ count. All (λ contact. contact.0 < count) named)
    (λ count. contact_ids (filter (has_contact named) (range_with_len 0 count))) _ _ c.as_slice.result.now c.extend_from_slice.ensures.items
    (λ count few. c.as_slice.ensures.value ∙ in_order _ (λ a b. refl) named _ _ c.sort_unstable_by_key.ensures.permutation sorted is count few)
