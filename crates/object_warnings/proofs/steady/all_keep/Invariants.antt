use Rattle.std.proofs.Common.{take}
use Rattle.std.specs.Prelude.{All}
use Rattle.object_warnings.specs.Steady.{Keeps}
use Rattle.object_warnings.proofs.steady.all_keep.Given as goal

-- The periods so far.
abbrev pub invariant-loop-period : goal.invariant-loop-period
invariant-loop-period l = All (Keeps l.weekday l.one l.other) (take l.period-index l.periods)
