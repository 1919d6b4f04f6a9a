use Rattle.std.proofs.Common.{◌++◌, ℕ, List, ap, append_assoc, flat_map, sym, ◌∙◌}
use Rattle.std.specs.List.{range_with_len}
use Rattle.lemmas.proofs.Numbers.{flat_range_more}
use Rattle.why_told.specs.Missing.{missing_at}
use Rattle.why_told.proofs.missing.push_first_missing.Goals as goal

pub loop-number-preserved : goal.loop-number-preserved
loop-number-preserved c =
    let missing : ℕ → List ℕ = missing_at c.args.asked c.args.config.now c.args.object.0 c.args.event c.args.lines.now in
    let number = c.loop-number.number in
    let text = c.args.text.now.items in
    c.in_ok-push_missing_at.ensures
    ∙ ap (λ (xs : List ℕ). xs ++ missing number) c.loop-number.invariant
    ∙ append_assoc text (flat_map missing (range_with_len 0 number)) (missing number)
    ∙ ap (λ (xs : List ℕ). text ++ xs) (sym (flat_range_more missing number))
