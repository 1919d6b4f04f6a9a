use Rattle.std.proofs.Common.{◌≡◌, ◌<◌, get_or, length, true, ℕ}
use Rattle.graph.specs.claims.Edges.{Leads}
use Rattle.object_inheritance.proofs.templates.used_nodes.Given as goal

-- What the edges of the nodes so far lead to is marked.
abbrev pub invariant-loop-node : goal.invariant-loop-node
invariant-loop-node l = record {
  long : length l.used.items ≡ length l.graph;
  marked : (p q : ℕ) → p < l.node → Leads l.graph p q → get_or l.used.items q true ≡ true;
}
