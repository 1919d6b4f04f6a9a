use Rattle.std.proofs.Common.{ℕ, ◌<◌, ◌∙◌, [], List, length, get_or, ap, subst, sym}
use Rattle.std.specs.Prelude.{All}
use Rattle.graph.specs.Edges.{IsGraph}
use Rattle.graph.proofs.EdgeLemmas.{IsGraph-within}
use Rattle.graph.proofs.edges.Graph.ends.Goals as goal

pub returns-clause-within : goal.returns-clause-within
returns-clause-within c =
    subst (λ (ends : List ℕ). All (λ q. q < length c.args.self.now) ends) (sym (c.get.ensures ∙ ap (λ (graph : List (List ℕ)). get_or graph c.args.node []) c.self.view_is))
    (IsGraph-within c.args.self.now c.args.node (subst IsGraph c.self.view_is c.self.invariant) c.requires)
