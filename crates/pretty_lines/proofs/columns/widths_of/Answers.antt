use Rattle.std.proofs.Common.{ap, ap₂, ℕ, min, ◌∙◌}
use Rattle.pretty_lines.specs.declared.columns.Widths.{Widths}
use Rattle.pretty_lines.specs.Columns.{most_width, widths_of}
use Rattle.pretty_lines.proofs.columns.widths_of.Goals as goal

pub returns : goal.returns
unfolding widths_of
returns c =
    let least : ℕ → ℕ = λ width. min width most_width in
    let both : ℕ → ℕ → Widths = λ object contact. record { object = object; contact = contact } in
    ap₂ both (c.min.ensures ∙ ap least c.in_ok-widest_object.ensures) (c.min-2.ensures ∙ ap least c.widest_contact.ensures)
