use Rattle.std.proofs.Common.{◌≡◌, map, take}
use Rattle.object_periods.specs.Loops.{rule_edge}
use Rattle.object_periods.proofs.loops.edges_from.Given as goal

-- The edges of the rules so far.
abbrev pub invariant-loop-rule : goal.invariant-loop-rule
invariant-loop-rule l = l.edges.items ≡ map (rule_edge l.first) (take l.rule-index l.rules)
