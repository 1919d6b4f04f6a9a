use Rattle.std.proofs.Common.{◌+◌, ◌∙◌, List, ℕ, refl, subst, sym}
use Rattle.std.specs.Prelude.{All, Contains, ◌↔◌}
use Rattle.graph.specs.declared.edges.Edge.{Edge}
use Rattle.graph.specs.claims.Edges.{Leads}
use Rattle.graph.specs.Edges.{IsWithin}
use Rattle.graph_rules.specs.Rules.{edge}
use Rattle.graph_rules.proofs.LinkLemmas.{all-within}
use Rattle.graph_rules.proofs.LoopLemmas.{first-found, none-found}
use Rattle.graph_rules.proofs.rules.Rules.first_looped.Goals as goal

pub new-requires : goal.new-requires
new-requires c =
    let r = c.args.self.now in
    subst (λ (es : List Edge). All (IsWithin (r.count + r.nodes + r.nodes)) es) (sym (c.as_slice.ensures.value ∙ c.in_ok-edges.ensures))
    (all-within r c.requires (r.count + r.nodes + r.nodes) refl)

pub returns-clause-first : goal.returns-clause-first
returns-clause-first c =
    first-found c.args.self.now c.requires c.in_ok-graph.graph
    (subst (λ (es : List Edge). (p q : ℕ) → Leads c.in_ok-graph.graph p q ↔ Contains es (edge p q)) (c.as_slice.ensures.value ∙ c.in_ok-edges.ensures) c.in_ok-graph.ensures.leads)
    c.first_on_loop_below.result c.first_on_loop_below.ensures.first c.first_on_loop_below.ensures.below

pub returns-clause-no_loop : goal.returns-clause-no_loop
returns-clause-no_loop c =
    none-found c.args.self.now c.requires c.in_ok-graph.graph
    (subst (λ (es : List Edge). (p q : ℕ) → Leads c.in_ok-graph.graph p q ↔ Contains es (edge p q)) (c.as_slice.ensures.value ∙ c.in_ok-edges.ensures) c.in_ok-graph.ensures.leads)
    c.first_on_loop_below.result c.first_on_loop_below.ensures.no_loop
