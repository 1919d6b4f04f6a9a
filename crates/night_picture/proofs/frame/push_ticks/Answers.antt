use Rattle.std.proofs.Common.{◌++◌, ℕ, List, ap, append_assoc, flat_map, sym, ◌∙◌}
use Rattle.std.specs.List.{range_with_len}
use Rattle.lemmas.proofs.Numbers.{flat_range_more}
use Rattle.night_picture.specs.Frame.{tick_text}
use Rattle.night_picture.proofs.frame.push_ticks.Goals as goal

pub loop-k-preserved : goal.loop-k-preserved
loop-k-preserved c =
    let tick : ℕ → List ℕ = tick_text c.args.clock.now c.args.span c.args.rows in
    let k = c.loop-k.k in
    let text = c.args.text.now.items in
    c.in_ok-push_tick.ensures
    ∙ ap (λ (xs : List ℕ). xs ++ tick k) c.loop-k.invariant
    ∙ append_assoc text (flat_map tick (range_with_len 0 k)) (tick k)
    ∙ ap (λ (xs : List ℕ). text ++ xs) (sym (flat_range_more tick k))
