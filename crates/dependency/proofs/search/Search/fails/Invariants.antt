use Rattle.std.proofs.Common.{◌≡◌, ◌-◌}
use Rattle.dependency.specs.Entry.{state_of}
use Rattle.dependency.specs.Search.{IsWalk}
use Rattle.dependency.proofs.search.Search.fails.Given as goal

abbrev pub invariant-loop-turn : goal.invariant-loop-turn
invariant-loop-turn l = record {
  same : l.self-inside.reach.nodes ≡ l.initial.self-inside.reach.nodes;
  walk : IsWalk l.config l.zone (state_of l.states) l.t l.fn.object.0 l.turn l.self-inside.reach.found;
}

abbrev pub decreases-loop-turn : goal.decreases-loop-turn
decreases-loop-turn l = l.self-inside.reach.nodes - l.turn
