use Rattle.std.proofs.Common.{◌++◌, ℕ, List, ap, append_assoc, flat_map, sym, ◌∙◌}
use Rattle.std.specs.List.{range_with_len}
use Rattle.lemmas.proofs.Numbers.{flat_range_more}
use Rattle.night_picture.specs.Frame.{contact_key}
use Rattle.night_picture.proofs.frame.push_contact_keys.Goals as goal

pub loop-k-preserved : goal.loop-k-preserved
loop-k-preserved c =
    let key : ℕ → List ℕ = contact_key c.args.config.now c.args.y in
    let k = c.loop-k.k in
    let text = c.args.text.now.items in
    c.in_ok-push_contact_key.ensures
    ∙ ap (λ (xs : List ℕ). xs ++ key k) c.loop-k.invariant
    ∙ append_assoc text (flat_map key (range_with_len 0 k)) (key k)
    ∙ ap (λ (xs : List ℕ). text ++ xs) (sym (flat_range_more key k))
