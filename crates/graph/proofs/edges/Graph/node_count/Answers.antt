use Rattle.std.proofs.Common.{subst}
use Rattle.graph.specs.Edges.{IsGraph}
use Rattle.graph.proofs.EdgeLemmas.{IsGraph-closed}
use Rattle.graph.proofs.edges.Graph.node_count.Goals as goal

pub returns-clause-closed : goal.returns-clause-closed
returns-clause-closed c = IsGraph-closed c.args.self.now (subst IsGraph c.self.view_is c.self.invariant)
