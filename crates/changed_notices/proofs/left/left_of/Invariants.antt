use Rattle.std.proofs.Common.{◌≡◌, drop}
use Rattle.changed_notices.specs.Left.{left_of}
use Rattle.changed_notices.proofs.left.left_of.Given as goal

abbrev pub invariant-loop-notice : goal.invariant-loop-notice
invariant-loop-notice l = left_of l.a l.b (drop l.notice-index l.notices) l.left.items ≡ left_of l.a l.b l.fn.notices l.fn.others
