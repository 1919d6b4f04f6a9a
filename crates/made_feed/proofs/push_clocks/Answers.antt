use Rattle.std.proofs.Common.{◌+◌, ◌*◌, ◌++◌, ℕ, List, ap, append_assoc, flat_map, sym, ◌∙◌}
use Rattle.std.specs.List.{range_with_len}
use Rattle.lemmas.proofs.Numbers.{flat_range_more}
use Rattle.made_feed.specs.Made.{clock_line}
use Rattle.made_feed.proofs.push_clocks.Goals as goal

pub loop-minute-preserved : goal.loop-minute-preserved
loop-minute-preserved c =
    let line : ℕ → List ℕ = λ minute. clock_line (c.args.moment + 60 * (minute + 1)) in
    let minute = c.loop-minute.minute in
    let text = c.args.text.now.items in
    c.in_ok-push_clock.ensures
    ∙ ap (λ (xs : List ℕ). xs ++ line minute) c.loop-minute.invariant
    ∙ append_assoc text (flat_map line (range_with_len 0 minute)) (line minute)
    ∙ ap (λ (xs : List ℕ). text ++ xs) (sym (flat_range_more line minute))
