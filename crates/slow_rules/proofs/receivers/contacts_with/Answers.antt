use Rattle.std.proofs.Common.{◌∷◌, [], ◌++◌, cond, map, filter, sym, ap, ◌∙◌, append-nil}
use Rattle.std.proofs.lemmas.List.{map-append}
use Rattle.std.specs.List.{range_with_len}
use Rattle.due_model.specs.claims.Escalations.{has_contact}
use Rattle.slow_rules.specs.Notices.{number_of_contact}
use Rattle.lemmas.proofs.Lists.{filter_range_more}
use Rattle.slow_rules.proofs.receivers.contacts_with.Goals as goal
use Rattle.slow_rules.proofs.receivers.contacts_with.Goals.{then-is_among+in_ok-push, else-is_among}

pub loop-number-preserved : goal.loop-number-preserved
loop-number-preserved c =
    let test = has_contact c.args.named.now in
    let n = c.loop-number.number in
    let so_far = filter test (range_with_len 0 n) in
    let more = filter_range_more test n in
    elim c.if-is_among.branch [
      | then-is_among+in_ok-push w ↦ ap (λ v. map number_of_contact v.items) w.found-is
          ∙ ap (map number_of_contact) w.in_ok-push.ensures.items
          ∙ map-append number_of_contact c.loop-number.found.items (record { 0 = n } ∷ [])
          ∙ ap (λ xs. xs ++ n ∷ []) c.loop-number.invariant
          ∙ ap (λ b. so_far ++ cond b (n ∷ []) []) w.if-is_among.ensures
          ∙ sym more
      | else-is_among w ↦ ap (λ v. map number_of_contact v.items) w.found-is
          ∙ c.loop-number.invariant
          ∙ sym (append-nil so_far)
          ∙ ap (λ b. so_far ++ cond b (n ∷ []) []) w.if-is_among.ensures
          ∙ sym more
    ]
