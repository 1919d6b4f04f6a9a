use Rattle.time_period.specs.Exclusions.{AreDone}
use Rattle.time_period.proofs.compile.table_of.Given as goal

abbrev pub invariant-loop-left : goal.invariant-loop-left
invariant-loop-left l = AreDone l.config l.order l.left l.done.items

abbrev pub decreases-loop-left : goal.decreases-loop-left
decreases-loop-left l = l.left
