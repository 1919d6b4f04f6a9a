use Rattle.std.proofs.Common.{◌≡◌}
use Rattle.notice_text.specs.claims.Texts.{contact_text}
use Rattle.pretty_lines.specs.Columns.{widest}
use Rattle.pretty_lines.proofs.columns.widest_contact.Given as goal

abbrev pub invariant-loop-number : goal.invariant-loop-number
invariant-loop-number l = l.widest ≡ widest (contact_text l.config) l.number
