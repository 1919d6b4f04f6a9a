use Rattle.std.proofs.Common.{◌++◌, ℕ, List, ap, append_assoc, codes, ◌∙◌}
use Rattle.night_picture.specs.Frame.{tag_text}
use Rattle.night_picture.specs.Shapes.{size_text}
use Rattle.night_picture.proofs.TextLaws.{ok_items}
use Rattle.night_picture.proofs.frame.push_tag.Goals as goal

pub returns : goal.returns
unfolding tag_text
returns c =
    let text : List ℕ = c.args.text.now.items in
    let front : List ℕ = codes "<?xml version=\"1.0\" encoding=\"UTF-8\"?>\n<svg xmlns=\"http://www.w3.org/2000/svg\"" in
    let size : List ℕ = size_text 1260 c.args.height in
    let end : List ℕ = codes " font-family=\"sans-serif\" font-size=\"12\">\n<title>Notices and suppressions</title>\n" in
    ok_items c.extend_from_slice-2.result _ _ _ _ c.extend_from_slice-2.ensures.items
    (ap (λ (t : List ℕ). t ++ end)
    (c.in_ok-push_size.ensures ∙ ap (λ (t : List ℕ). t ++ size) c.in_ok-extend_from_slice.ensures.items ∙ append_assoc text front size)
    ∙ append_assoc text (front ++ size) end)
