use Rattle.graph_order.proofs.CloseLemmas.{IsMarkedDone-more}
use Rattle.graph_order.proofs.walk.mark_done.Goals as goal

pub loop-node-preserved : goal.loop-node-preserved
loop-node-preserved c = IsMarkedDone-more c.args.marks.now.items c.args.nodes.now c.loop-node.node-index c.loop-node.marks.items c.loop-node.invariant c.loop-node-test.true c.requires
