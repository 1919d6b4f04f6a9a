use Rattle.std.proofs.Common.{codes, decimal}
use Rattle.local_text.specs.Text.{local_text}
use Rattle.why_told.specs.Rows.{more_row}
use Rattle.why_told.proofs.TextLaws.{five_parts}
use Rattle.why_told.proofs.rows.push_more.Goals as goal

pub returns : goal.returns
unfolding more_row
returns c =
    five_parts _ _ _ _ _ _ (codes "    and again    ") (decimal c.args.more) (codes " times, up to ") (local_text c.args.clock.now c.args.moment) (codes "\n")
    c.in_ok-extend_from_slice.ensures.items
    c.in_ok-push_decimal.ensures
    c.in_ok-extend_from_slice-2.ensures.items
    c.in_ok-push_local.ensures
    c.in_ok-extend_from_slice-3.ensures.items
