use Rattle.std.proofs.Common.{◌∙◌, sym, ap₂, ℕ, max}
use Rattle.notice_text.specs.claims.Texts.{object_text}
use Rattle.pretty_lines.proofs.ColumnLaws.{widest_more}
use Rattle.pretty_lines.proofs.columns.widest_object.Goals as goal

pub loop-number-preserved : goal.loop-number-preserved
loop-number-preserved c =
    c.max-widest.ensures ∙ ap₂ (λ (m n : ℕ). max m n) c.loop-number.invariant c.in_ok-object_width.ensures ∙ sym (widest_more (object_text c.args.config.now) c.loop-number.number)
