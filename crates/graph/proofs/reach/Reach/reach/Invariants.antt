use Rattle.std.proofs.Common.{◌≡◌, ◌-◌, length}
use Rattle.graph.specs.Reach.{IsTurn}
use Rattle.graph.proofs.reach.Reach.reach.Given as goal

abbrev pub invariant-loop-turn : goal.invariant-loop-turn
invariant-loop-turn l = record {
  same : l.self.nodes ≡ length l.graph;
  turn : IsTurn l.graph l.from l.turn l.self.found;
}

abbrev pub decreases-loop-turn : goal.decreases-loop-turn
decreases-loop-turn l = l.self.nodes - l.turn
