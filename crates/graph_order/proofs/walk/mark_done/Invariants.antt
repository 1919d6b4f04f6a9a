use Rattle.std.proofs.Common.{take}
use Rattle.graph_order.specs.Walk.{IsMarkedDone}
use Rattle.graph_order.proofs.walk.mark_done.Given as goal

abbrev pub invariant-loop-node : goal.invariant-loop-node
invariant-loop-node l = IsMarkedDone l.initial.marks.items (take l.node-index l.nodes) l.marks.items
