use Rattle.std.proofs.Common.{◌++◌, ℕ, List, ap, append_assoc, flat_map, sym, ◌∙◌}
use Rattle.std.specs.List.{range_with_len}
use Rattle.lemmas.proofs.Numbers.{flat_range_more}
use Rattle.night_picture.specs.Rows.{row_at}
use Rattle.night_picture.proofs.rows.push_rows.Goals as goal

pub loop-place-preserved : goal.loop-place-preserved
loop-place-preserved c =
    let row : ℕ → List ℕ = row_at c.args.config.now c.args.clock.now c.args.span c.args.drawn.changes.now c.args.drawn.marks.now c.args.shown.now in
    let place = c.loop-place.place in
    let text = c.args.text.now.items in
    c.in_ok-push_row_at.ensures
    ∙ ap (λ (xs : List ℕ). xs ++ row place) c.loop-place.invariant
    ∙ append_assoc text (flat_map row (range_with_len 0 place)) (row place)
    ∙ ap (λ (xs : List ℕ). text ++ xs) (sym (flat_range_more row place))
