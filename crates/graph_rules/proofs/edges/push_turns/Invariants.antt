use Rattle.std.proofs.Common.{◌≡◌, ◌+◌, ◌++◌, map, take}
use Rattle.graph_rules.specs.Rules.{edge}
use Rattle.graph_rules.proofs.edges.push_turns.Given as goal

-- The edges of the nodes so far.
abbrev pub invariant-loop-own : goal.invariant-loop-own
invariant-loop-own l = l.edges.items
    ≡ l.initial.edges.items ++ map (λ own. edge (l.from + own) (l.to + own)) (take l.own-index l.nodes)
