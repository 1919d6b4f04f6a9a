use Rattle.std.proofs.Common.{◌≤◌}
use Rattle.site_check.proofs.lines.line_at.Given as goal

-- The line begins among the bytes so far.
abbrev pub invariant-loop-at : goal.invariant-loop-at
invariant-loop-at l = l.start ≤ l.at
