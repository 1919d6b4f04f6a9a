use Rattle.std.proofs.Common.{codes}
use Rattle.notice_text.specs.claims.Texts.{contact_text}
use Rattle.filter_values.specs.Values.{contact_filter_text}
use Rattle.why_told.specs.Rows.{refused_row}
use Rattle.why_told.proofs.TextLaws.{four_parts, part}
use Rattle.why_told.proofs.rows.push_refused_row.Goals as goal

pub returns : goal.returns
unfolding refused_row
returns c =
    four_parts _ _ _ _ _ (codes "    refused      ") (contact_text c.args.config.now c.args.contact.0) (codes "  ")
    (contact_filter_text c.args.config.now c.args.withheld.now.object.0 c.args.contact.0 c.args.withheld.now.filter)
    c.in_ok-extend_from_slice.ensures.items
    (part _ _ _ _ c.in_ok-extend_from_slice-2.ensures.items c.contact_name.ensures)
    c.in_ok-extend_from_slice-3.ensures.items
    c.in_ok-push_contact_filter.ensures
