-- Where the dependents and the masters reach nothing in common, there is no loop.
use Rattle.std.proofs.Common.{◌≡◌, ℕ, zero, suc, ◌+◌, ◌<◌, Bool, true, false, List, ◌++◌, Some, refl, sym, subst, get_or, arith, ◌∙◌}
use Rattle.std.specs.Prelude.{All, Contains, not, slice_get, ◌↔◌}
use Rattle.std.proofs.lemmas.Bool.{false≢true}
use Rattle.std.proofs.lemmas.List.Elements.{All-append, All-contains, All-from_get_or, Contains-append_left, Contains-append_right, Contains-get_or}
use Rattle.std.proofs.lemmas.Option.{same_Some}
use Rattle.lemmas.proofs.Chains.{Chain-map}
use Rattle.lemmas.proofs.Elements.{Contains-from_map, Contains-map}
use Rattle.graph.specs.declared.edges.Edge.{Edge}
use Rattle.graph.specs.claims.Chains.{Chain, Reaches}
use Rattle.graph.specs.claims.Edges.{Leads}
use Rattle.graph.specs.Edges.{HasEdges, IsWithin}
use Rattle.graph.specs.Reach.{IsReached}
use Rattle.graph_rules.specs.declared.rules.Rules.{Rules}
use Rattle.graph_rules.specs.Rules.{AreWithin, Depends, edge, HasDependent, HasNoLoop, IsOfRule, LeadsTo}
use Rattle.object_dependency_loops.specs.Apart.{AreMarked, ends_from, HasSides, NoneIsMarked, side_edges}

-- ---- the graph

ends-within : (count nodes node bound : ℕ) (sides : List Edge) → All (IsOfRule count nodes) sides → node < bound → nodes < bound + 1 → All (IsWithin bound) (ends_from node sides)
ends-within count nodes node bound sides within low less = All-from_get_or (IsWithin bound) (ends_from node sides) (edge 0 0) (λ i small.
    let from = Contains-from_map (λ side. edge node side.to) sides (get_or (ends_from node sides) i (edge 0 0)) (Contains-get_or (ends_from node sides) i (edge 0 0) small) in
    let end = (All-contains (IsOfRule count nodes) sides from.0 within from.1).node in
    subst (IsWithin bound) from.2 (record { from = low; to = omega (arith, end, less) }))

pub sides-within : (rules : Rules) → AreWithin rules → All (IsWithin (rules.nodes + 2)) (side_edges rules)
sides-within rules within =
    All-append (IsWithin (rules.nodes + 2)) (rules.members.items ++ ends_from rules.nodes rules.dependents.items) (ends_from (rules.nodes + 1) rules.masters.items)
    (All-append (IsWithin (rules.nodes + 2)) rules.members.items (ends_from rules.nodes rules.dependents.items)
    (λ i d low. let one = within.members i d low in record { from = (let at = one.from in omega (arith, at)); to = (let at = one.to in omega (arith, at)) })
    (ends-within rules.count rules.nodes rules.nodes (rules.nodes + 2) rules.dependents.items within.dependents (omega arith) (omega arith)))
    (ends-within rules.count rules.nodes (rules.nodes + 1) (rules.nodes + 2) rules.masters.items within.masters (omega arith) (omega arith))

pub sides-are : (rules : Rules) (edges : List Edge) (graph : List (List ℕ)) → edges ≡ side_edges rules → HasEdges (rules.nodes + 2) edges graph
    → ((p q : ℕ) → Leads graph p q ↔ Contains edges (edge p q)) → HasSides rules graph
sides-are rules edges graph are has leads =
    let second = ends_from rules.nodes rules.dependents.items in
    let third = ends_from (rules.nodes + 1) rules.masters.items in
    let first = rules.members.items ++ second in
    record {
      count = has.count;
      members = λ from to at. of-side from to (Contains-append_left first third (edge from to) (Contains-append_left rules.members.items second (edge from to) at));
      dependents = λ rule node at. of-side rules.nodes node (Contains-append_left first third (edge rules.nodes node) (Contains-append_right rules.members.items second (edge rules.nodes node)
          (Contains-map (λ side. edge rules.nodes side.to) rules.dependents.items (edge rule node) at)));
      masters = λ rule node at. of-side (rules.nodes + 1) node (Contains-append_right first third (edge (rules.nodes + 1) node)
          (Contains-map (λ side. edge (rules.nodes + 1) side.to) rules.masters.items (edge rule node) at));
    }
  where
    of-side : (from to : ℕ) → Contains (side_edges rules) (edge from to) → Leads graph from to
    of-side from to at = (leads from to).1 (subst (λ (es : List Edge). Contains es (edge from to)) (sym are) at)

-- ---- what is reached

module _ (rules : Rules) (graph : List (List ℕ)) (has : HasSides rules graph) where
  -- the new node reaches what a node does to which it leads
  reach-on : (from node own : ℕ) → Leads graph from node → Reaches (LeadsTo rules) node own → Reaches (Leads graph) from own
  reach-on from node own led (steps, chain) = (suc steps, (node, led, Chain-map (LeadsTo rules) (Leads graph) has.members steps node own chain))

  from-dependents : (rule object own : ℕ) → HasDependent rules rule object → slice_get rules.objects.items object ≡ Some own → Reaches (Leads graph) rules.nodes own
  from-dependents rule object own (node, at, (other, other_is, reaches)) is =
      subst (λ (n : ℕ). Reaches (Leads graph) rules.nodes n) (same_Some other own (sym other_is ∙ is)) (reach-on rules.nodes node other (has.dependents rule node at) reaches)

  -- an object that depends on one, or from which none leads on
  of-chain : (steps object dependent rule own : ℕ) → Chain (Depends rules) steps object dependent → HasDependent rules rule dependent → slice_get rules.objects.items object ≡ Some own
      → Reaches (Leads graph) rules.nodes own
  of-chain zero object dependent rule own same has_it is = from-dependents rule object own (subst (λ (o : ℕ). HasDependent rules rule o) (sym same) has_it) is
  of-chain (suc steps) object dependent rule own (next, (by, (is_its, on)), rest) has_it is = from-dependents by object own is_its is

  pub no-loop : (marks : List Bool) (masters dependents : List ℕ) → IsReached graph (rules.nodes + 1) masters → IsReached graph rules.nodes dependents → AreMarked marks masters → NoneIsMarked marks dependents
      → HasNoLoop rules
  no-loop marks masters dependents up down marked none rule (dependent, master, (is_its, (node, at, (own, own_is, reaches))), (steps, chain)) =
      let there = (up.exactly own).1 (reach-on (rules.nodes + 1) node own (has.masters rule node at) reaches) in
      let too = (down.exactly own).1 (of-chain steps master dependent rule own chain is_its own_is) in
      absurd (false≢true (sym (none own too) ∙ marked own there))

pub of-not : (b : Bool) → not b ≡ true → b ≡ false
of-not true is = absurd (false≢true is)
of-not false is = refl
