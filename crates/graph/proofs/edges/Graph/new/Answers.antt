use Rattle.std.proofs.Common.{arith, sym, subst, List, ℕ}
use Rattle.graph.specs.Edges.{HasEdges}
use Rattle.graph.proofs.EdgeLemmas.{HasEdges-Leads, HasEdges-IsGraph}
use Rattle.graph.proofs.edges.Graph.new.Goals as goal

pub invariant_of-result : goal.invariant_of-result
invariant_of-result c =
    HasEdges-IsGraph c.args.nodes c.args.edges.now c.in_ok-ends.ends (omega (arith, c.ranges.nodes.fits)) c.requires
    (subst (λ (graph : List (List ℕ)). HasEdges c.args.nodes c.args.edges.now graph) (sym c.in_ok-ends.ensures) c.in_ok-ends_of.ensures)

pub returns-clause-leads : goal.returns-clause-leads
returns-clause-leads c =
    HasEdges-Leads c.args.nodes c.args.edges.now c.in_ok-ends.ends c.requires
    (subst (λ (graph : List (List ℕ)). HasEdges c.args.nodes c.args.edges.now graph) (sym c.in_ok-ends.ensures) c.in_ok-ends_of.ensures)
