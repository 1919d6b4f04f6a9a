use Rattle.std.proofs.Common.{◌++◌, ℕ, List, ap, append_assoc, flat_map, sym, ◌∙◌}
use Rattle.std.specs.List.{range_with_len}
use Rattle.lemmas.proofs.Numbers.{flat_range_more}
use Rattle.who_missed.specs.Missed.{missed_line}
use Rattle.who_missed.proofs.missed.push_first.Goals as goal

pub loop-number-preserved : goal.loop-number-preserved
loop-number-preserved c =
    let line : ℕ → List ℕ = missed_line c.args.form.form c.args.config.now c.args.clock.now c.args.object.0 c.args.until c.args.lines.now in
    let number = c.loop-number.number in
    let text = c.args.text.now.items in
    c.in_ok-push_line.ensures
    ∙ ap (λ (xs : List ℕ). xs ++ line number) c.loop-number.invariant
    ∙ append_assoc text (flat_map line (range_with_len 0 number)) (line number)
    ∙ ap (λ (xs : List ℕ). text ++ xs) (sym (flat_range_more line number))
