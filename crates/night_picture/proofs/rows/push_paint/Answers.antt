use Rattle.std.proofs.Common.{◌++◌, ℕ, List, ap, append_assoc, codes, ◌∙◌}
use Rattle.night_picture.specs.Rows.{paint_of}
use Rattle.night_picture.proofs.TextLaws.{ok_items}
use Rattle.night_picture.proofs.rows.push_paint.Goals as goal

pub returns : goal.returns
unfolding paint_of
returns c =
    let front : List ℕ = codes " stroke=\"#222222\" fill=\"" in
    ok_items c.extend_from_slice-2.result _ _ _ _ c.extend_from_slice-2.ensures.items
    (ap (λ (t : List ℕ). t ++ c.args.colour.now) c.in_ok-extend_from_slice.ensures.items ∙ append_assoc c.args.text.now.items front c.args.colour.now)
