use Rattle.std.proofs.Common.{◌≡◌, length}
use Rattle.changed_notices.specs.Left.{left_of}
use Rattle.changed_notices.proofs.left.after_common.Given as goal

abbrev pub invariant-loop-notice : goal.invariant-loop-notice
invariant-loop-notice l = left_of l.a l.b l.fn.notices l.fn.others ≡ left_of l.a l.b l.notices l.others

abbrev pub decreases-loop-notice : goal.decreases-loop-notice
decreases-loop-notice l = length l.notices
