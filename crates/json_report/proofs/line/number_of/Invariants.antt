use Rattle.std.proofs.Common.{◌≡◌, length}
use Rattle.json_report.specs.Lines.{number_from}
use Rattle.json_report.proofs.line.number_of.Given as goal

-- The number so far, and the digits that are left.
abbrev pub invariant-loop-left : goal.invariant-loop-left
invariant-loop-left l = number_from l.number l.left ≡ number_from 0 l.digits

abbrev pub decreases-loop-left : goal.decreases-loop-left
decreases-loop-left l = length l.left
