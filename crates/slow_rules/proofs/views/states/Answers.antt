use Rattle.std.proofs.Common.{◌∷◌, [], ◌++◌, ◌∙◌, ap₂, reverse, sym, arith}
use Rattle.std.proofs.lemmas.List.FromFn.{map-range_with_len_more}
use Rattle.due_model.specs.claims.Readings.{hard}
use Rattle.slow_rules.proofs.views.states.Goals as goal

pub loop-number-preserved : goal.loop-number-preserved
loop-number-preserved c =
    let n = c.loop-number.number in
    let past = c.args.event.now ∷ reverse c.args.past.now in
    c.in_ok-push.ensures.items ∙ ap₂ (λ xs x. xs ++ x ∷ []) c.loop-number.invariant c.hard_at.ensures
    ∙ sym (map-range_with_len_more (λ o. hard o past) 0 n n (omega arith))
