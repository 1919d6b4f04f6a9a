use Rattle.std.specs.Prelude.{All}
use Rattle.graph_rules.specs.Rules.{IsOfRule}
use Rattle.acceptance_parts.proofs.looped_rules.sides_of.Given as goal

abbrev pub invariant-loop-pair : goal.invariant-loop-pair
invariant-loop-pair g l = All (IsOfRule l.count l.nodes) l.edges.items
