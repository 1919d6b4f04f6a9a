use Rattle.std.proofs.Common.{codes, ◌∙◌}
use Rattle.local_text.specs.Text.{local_text}
use Rattle.notice_text.specs.claims.Names.{kind_name, state_name}
use Rattle.why_told.specs.Rows.{head_text, notice_number}
use Rattle.why_told.proofs.TextLaws.{part, seven_parts}
use Rattle.why_told.proofs.rows.push_head.Goals as goal

pub returns : goal.returns
unfolding head_text
returns c =
    seven_parts _ _ _ _ _ _ _ _ (local_text c.args.clock.now c.args.moment) (codes "  ") (kind_name c.args.kind) (codes " ") (state_name c.args.state) (notice_number c.args.number) (codes "\n")
    c.in_ok-push_local.ensures
    c.in_ok-extend_from_slice.ensures.items
    (part _ _ _ _ c.in_ok-extend_from_slice-2.ensures.items (c.as_bytes.ensures.value ∙ c.kind_name.ensures))
    c.in_ok-extend_from_slice-3.ensures.items
    (part _ _ _ _ c.in_ok-extend_from_slice-4.ensures.items (c.as_bytes-2.ensures.value ∙ c.state_name.ensures))
    c.in_ok-push_number.ensures
    c.in_ok-extend_from_slice-5.ensures.items
