use Rattle.std.proofs.Common.{◌≡◌, ◌+◌, ◌<◌, ◌≤◌, ◌∙◌, List, [], ap, arith, get_or, length, subst, sym, true, ⊎_elim, ℕ}
use Rattle.std.specs.Prelude.{Contains}
use Rattle.std.proofs.lemmas.Bool.{cases_lt}
use Rattle.graph.specs.claims.Edges.{Leads}
use Rattle.std.proofs.lemmas.List.{get_or_past}
use Rattle.object_inheritance.proofs.templates.used_nodes.Goals as goal

pub loop-node-preserved : goal.loop-node-preserved
loop-node-preserved c = record {
  long = c.mark.ensures.long ∙ c.loop-node.invariant.long;
  marked = λ p q low leads. ⊎_elim
      (λ (before : p < c.loop-node.node). c.mark.ensures.stays q (c.loop-node.invariant.marked p q before leads))
      (λ (from : c.loop-node.node ≤ p).
      let here : p ≡ c.loop-node.node = omega (arith, from, low) in
      c.mark.ensures.marked q (subst (λ (nodes : List ℕ). Contains nodes q) (sym c.ends.ensures.value) (subst (λ (k : ℕ). Leads c.args.graph.now k q) here leads)))
      (cases_lt p c.loop-node.node);
}

pub returns : goal.returns
returns c p q leads =
    let graph = c.args.graph.now in
    let low : p < length graph = ⊎_elim
    (λ (low : p < length graph). low)
    (λ (past : length graph ≤ p).
    let none = subst (λ (ends : List ℕ). Contains ends q) (get_or_past graph p [] past) leads in
    absurd (omega (arith, none.1)))
    (cases_lt p (length graph)) in
    c.loop-node.invariant.marked p q (omega (arith, low, c.loop-node-test.false, c.node_count-count.ensures.count)) leads
