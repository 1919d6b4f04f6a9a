use Rattle.std.proofs.Common.{◌++◌, ℕ, List, ap, append_assoc, flat_map, sym, ◌∙◌}
use Rattle.std.specs.List.{range_with_len}
use Rattle.lemmas.proofs.Numbers.{flat_range_more}
use Rattle.who_missed.specs.Missed.{escalation_of}
use Rattle.who_missed.proofs.reasons.push_escalations.Goals as goal

pub loop-index-preserved : goal.loop-index-preserved
loop-index-preserved c =
    let of : ℕ → List ℕ = escalation_of c.args.config.now c.args.object.0 c.args.contact.0 c.args.until c.args.lines.now in
    let index = c.loop-index.index in
    let text = c.args.text.now.items in
    c.in_ok-push_escalation_of.ensures
    ∙ ap (λ (xs : List ℕ). xs ++ of index) c.loop-index.invariant
    ∙ append_assoc text (flat_map of (range_with_len 0 index)) (of index)
    ∙ ap (λ (xs : List ℕ). text ++ xs) (sym (flat_range_more of index))
