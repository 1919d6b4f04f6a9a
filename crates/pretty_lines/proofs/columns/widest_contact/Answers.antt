use Rattle.std.proofs.Common.{◌∙◌, List, sym, ap, ap₂, ℕ, max}
use Rattle.notice_text.specs.claims.Texts.{contact_text}
use Rattle.pretty_lines.specs.Columns.{characters}
use Rattle.pretty_lines.proofs.ColumnLaws.{widest_more}
use Rattle.pretty_lines.proofs.columns.widest_contact.Goals as goal

pub loop-number-preserved : goal.loop-number-preserved
loop-number-preserved c =
    c.max-widest.ensures
    ∙ ap₂ (λ (m n : ℕ). max m n) c.loop-number.invariant (c.characters.ensures ∙ ap (λ (text : List ℕ). characters text) c.contact_name.ensures)
    ∙ sym (widest_more (contact_text c.args.config.now) c.loop-number.number)
