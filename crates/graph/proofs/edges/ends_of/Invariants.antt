use Rattle.std.proofs.Common.{take}
use Rattle.graph.specs.Edges.{HasEdges}
use Rattle.graph.proofs.edges.ends_of.Given as goal

-- The lists have the edges so far.
abbrev pub invariant-loop-edge : goal.invariant-loop-edge
invariant-loop-edge l = HasEdges l.nodes (take l.edge-index l.edges) l.lists
