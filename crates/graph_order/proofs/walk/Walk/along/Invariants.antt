use Rattle.graph_order.specs.Walk.{Fits, steps_left}
use Rattle.graph_order.proofs.walk.Walk.along.Given as goal

abbrev pub invariant-loop-walk : goal.invariant-loop-walk
invariant-loop-walk l = Fits l.graph l.walk

abbrev pub decreases-loop-walk : goal.decreases-loop-walk
decreases-loop-walk l = steps_left l.graph l.walk
