use Rattle.std.proofs.Common.{◌∙◌, refl}
use Rattle.graph.proofs.ReachLemmas.{Gains-more}
use Rattle.graph.proofs.reach.Reach.find_each.Goals as goal

pub loop-node-preserved : goal.loop-node-preserved
loop-node-preserved c = record {
  same = c.find.ensures.nodes ∙ c.loop-node.invariant.same;
  gains = Gains-more c.args.self.now.found c.args.nodes.now c.loop-node.self.found c.find.new.self.found c.loop-node.node-index _ c.loop-node-test.true refl c.loop-node.invariant.gains c.find.ensures.gains;
}
