use Rattle.std.proofs.Common.{take}
use Rattle.earlier_runs.specs.State.{AreEachOnce}
use Rattle.earlier_runs.proofs.state.each_once.Given as goal

-- each of the first notices once
abbrev pub invariant-loop-notice : goal.invariant-loop-notice
invariant-loop-notice l = AreEachOnce (take l.notice-index l.notices) l.found.items
