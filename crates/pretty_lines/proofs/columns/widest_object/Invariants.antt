use Rattle.std.proofs.Common.{◌≡◌}
use Rattle.notice_text.specs.claims.Texts.{object_text}
use Rattle.pretty_lines.specs.Columns.{widest}
use Rattle.pretty_lines.proofs.columns.widest_object.Given as goal

abbrev pub invariant-loop-number : goal.invariant-loop-number
invariant-loop-number l = l.widest ≡ widest (object_text l.config) l.number
