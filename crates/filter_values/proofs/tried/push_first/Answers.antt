use Rattle.std.proofs.Common.{◌++◌, ℕ, List, ap, append_assoc, flat_map, sym, ◌∙◌}
use Rattle.std.specs.List.{range_with_len}
use Rattle.lemmas.proofs.Numbers.{flat_range_more}
use Rattle.filter_values.specs.Tried.{passed_json_at}
use Rattle.filter_values.proofs.tried.push_first.Goals as goal

pub loop-place-preserved : goal.loop-place-preserved
loop-place-preserved c =
    let passed : ℕ → List ℕ = passed_json_at c.args.config.now c.args.object.0 in
    let place = c.loop-place.place in
    let text = c.args.text.now.items in
    c.in_ok-push_passed_at.ensures
    ∙ ap (λ (xs : List ℕ). xs ++ passed place) c.loop-place.invariant
    ∙ append_assoc text (flat_map passed (range_with_len 0 place)) (passed place)
    ∙ ap (λ (xs : List ℕ). text ++ xs) (sym (flat_range_more passed place))
