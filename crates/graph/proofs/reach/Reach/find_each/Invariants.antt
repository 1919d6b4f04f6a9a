use Rattle.std.proofs.Common.{◌≡◌, take}
use Rattle.graph.specs.Reach.{Gains}
use Rattle.graph.proofs.reach.Reach.find_each.Given as goal

abbrev pub invariant-loop-node : goal.invariant-loop-node
invariant-loop-node l = record {
  same : l.self.nodes ≡ l.initial.self.nodes;
  gains : Gains l.initial.self.found (take l.node-index l.nodes) l.self.found;
}
