use Rattle.std.proofs.Common.{◌≡◌, ◌+◌, ◌++◌, map, take}
use Rattle.graph_rules.specs.Rules.{edge}
use Rattle.graph_rules.proofs.edges.push_back.Given as goal

-- The edges so far, the other way round.
abbrev pub invariant-loop-one : goal.invariant-loop-one
invariant-loop-one l = l.edges.items
    ≡ l.initial.edges.items ++ map (λ one. edge (l.from + one.to) (l.to + one.from)) (take l.one-index l.more)
