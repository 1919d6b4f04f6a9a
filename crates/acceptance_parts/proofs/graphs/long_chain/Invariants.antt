use Rattle.std.specs.Prelude.{All}
use Rattle.graph.specs.Edges.{IsWithin}
use Rattle.acceptance_parts.proofs.graphs.long_chain.Given as goal

abbrev pub invariant-loop-to : goal.invariant-loop-to
invariant-loop-to l = All (IsWithin 100_000) l.edges.items
