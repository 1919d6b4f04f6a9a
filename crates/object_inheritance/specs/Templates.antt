-- Templates, and which of them each block uses (chapter "Object Inheritance").
use Rattle.std.specs.Prelude.{ℕ}
use Rattle.graph.specs.declared.edges.Edge.{Edge}

-- an edge of that graph
abbrev pub edge_from : ℕ → ℕ → Edge
edge_from place to = record { from = place; to = to }
