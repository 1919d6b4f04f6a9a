use Rattle.std.specs.Prelude.{All}
use Rattle.graph.specs.Edges.{IsWithin}
use Rattle.acceptance_parts.proofs.looped_rules.members_of.Given as goal

abbrev pub invariant-loop-pair : goal.invariant-loop-pair
invariant-loop-pair g l = All (IsWithin l.nodes) l.edges.items
