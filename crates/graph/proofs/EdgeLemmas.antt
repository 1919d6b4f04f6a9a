-- Each node's ends, as edges are added, and that they are exactly where the edges lead.
use Rattle.std.proofs.Common.{◌≡◌, ℕ, zero, suc, ◌<◌, ◌≤◌, ◌^◌, true, false, cond, eqb, List, [], ◌∷◌, ◌++◌, length, map, get_or, set, replicate, refl, sym, ap, subst, ◌∙◌, ◌⊎◌, inl, inr, ⊎_elim, arith}
use Rattle.std.specs.Prelude.{filter, Contains, All, ◌↔◌}
use Rattle.std.proofs.lemmas.Bool.{cases_lt, eq-eqb, eqb-true}
use Rattle.std.proofs.lemmas.List.{append-nil, get_or-replicate, get_or-set_other, get_or-set_same, get_or_past, length-replicate, length-set, map-append}
use Rattle.std.proofs.lemmas.List.Elements.{All-from_get_or, All-get_or, All-map, All-filter, All-weaker, All-contains, filter-append}
use Rattle.graph.specs.declared.edges.Edge.{Edge}
use Rattle.graph.specs.claims.Edges.{Leads}
use Rattle.graph.specs.Edges.{ends_of, HasEdges, IsWithin, IsGraph}

-- ---- what a list contains, one element at a time

pub Contains-here : {X : Type 0} (x : X) (xs : List X) → Contains (x ∷ xs) x
Contains-here x xs = (0, omega arith, refl)

pub Contains-later : {X : Type 0} (x y : X) (xs : List X) → Contains xs y → Contains (x ∷ xs) y
Contains-later x y xs at = (suc at.0, omega (arith, at.1), at.2)

pub Contains-cases : {X : Type 0} (x y : X) (xs : List X) → Contains (x ∷ xs) y → (x ≡ y) ⊎ Contains xs y
Contains-cases x y xs (zero, within, at) = inl at
Contains-cases x y xs (suc k, within, at) = inr (k, omega arith, at)

pub Contains-none : {X : Type 0} (x : X) → Contains [] x → ⊥
Contains-none x at = omega (arith, at.1)

-- ---- ends

ends_of-cons : (e : Edge) (edges : List Edge) (p : ℕ) → ends_of (e ∷ edges) p ≡ cond (eqb e.from p) (e.to ∷ ends_of edges p) (ends_of edges p)
ends_of-cons e edges p = elim (eqb e.from p) as (λ b. map (λ (x : Edge). x.to) (cond b (e ∷ filter (λ (x : Edge). eqb x.from p) edges) (filter (λ (x : Edge). eqb x.from p) edges)) ≡ cond b (e.to ∷ ends_of edges p) (ends_of edges p)) [ true ↦ refl | false ↦ refl ]

ends_of-push : (edges : List Edge) (e : Edge) (p : ℕ) → ends_of (edges ++ e ∷ []) p ≡ ends_of edges p ++ cond (eqb e.from p) (e.to ∷ []) []
ends_of-push edges e p = rw (filter-append (λ (x : Edge). eqb x.from p) edges (e ∷ []), map-append, ends_of-cons e [] p) refl

pub HasEdges-none : (nodes : ℕ) → HasEdges nodes [] (replicate nodes [])
HasEdges-none nodes = record {
  count = length-replicate {A = List ℕ} nodes [];
  ends = λ p low. get_or-replicate {A = List ℕ} nodes p [] [] low;
}

-- one edge more
pub HasEdges-more : (nodes : ℕ) (edges : List Edge) (e : Edge) (lists : List (List ℕ)) → e.from < nodes → HasEdges nodes edges lists
    → HasEdges nodes (edges ++ e ∷ []) (set lists e.from (get_or lists e.from [] ++ e.to ∷ []))
HasEdges-more nodes edges e lists within has =
    let ends = get_or lists e.from [] ++ e.to ∷ [] in
    record {
      count = length-set lists e.from ends ∙ has.count;
      ends = λ p low. elim (eqb e.from p) as (λ b. eqb e.from p ≡ b → get_or (set lists e.from ends) p [] ≡ ends_of edges p ++ cond b (e.to ∷ []) []) [
        | true ↦ λ same. subst (λ (q : ℕ). get_or (set lists e.from ends) q [] ≡ ends_of edges q ++ e.to ∷ []) (eqb-true e.from p same)
            (get_or-set_same lists e.from ends [] (omega (arith, within, has.count)) ∙ ap (λ (some : List ℕ). some ++ e.to ∷ []) (has.ends e.from within))
        | false ↦ λ other. get_or-set_other lists e.from p ends [] (λ is. let same : eqb e.from p ≡ true = eq-eqb e.from p (sym is) in cc) ∙ has.ends p low ∙ sym (append-nil (ends_of edges p))
      ] refl ∙ sym (ends_of-push edges e p);
    }

-- ---- exactly where the edges lead

abbrev edge_of : ℕ → ℕ → Edge
edge_of p q = record { from = p; to = q }

pub Contains-ends : (edges : List Edge) (p q : ℕ) → Contains (ends_of edges p) q → Contains edges (record { from = p; to = q })
Contains-ends [] p q at = absurd (Contains-none q at)
Contains-ends (e ∷ edges) p q at =
    let at' : Contains (cond (eqb e.from p) (e.to ∷ ends_of edges p) (ends_of edges p)) q = subst (λ (ends : List ℕ). Contains ends q) (ends_of-cons e edges p) at in
    elim (eqb e.from p) as (λ b. eqb e.from p ≡ b → Contains (cond b (e.to ∷ ends_of edges p) (ends_of edges p)) q → Contains (e ∷ edges) (record { from = p; to = q })) [
      | true ↦ λ same there. ⊎_elim
          (λ (here : e.to ≡ q). let from : e.from ≡ p = eqb-true e.from p same in
          let is : e ≡ record { from = p; to = q } = ap (λ (x : ℕ). edge_of x e.to) from ∙ ap (λ (x : ℕ). edge_of p x) here in
          subst (λ (x : Edge). Contains (e ∷ edges) x) is (Contains-here e edges))
          (λ (later : Contains (ends_of edges p) q). Contains-later e _ edges (Contains-ends edges p q later))
          (Contains-cases e.to q (ends_of edges p) there)
      | false ↦ λ other there. Contains-later e _ edges (Contains-ends edges p q there)
    ] refl at'

pub ends-Contains : (edges : List Edge) (p q : ℕ) → Contains edges (record { from = p; to = q }) → Contains (ends_of edges p) q
ends-Contains [] p q at = absurd (Contains-none _ at)
ends-Contains (e ∷ edges) p q at = subst (λ (ends : List ℕ). Contains ends q) (sym (ends_of-cons e edges p)) (
    ⊎_elim
    (λ (here : e ≡ record { from = p; to = q }).
    let from : e.from ≡ p = ap (λ (x : Edge). x.from) here in
    let to : e.to ≡ q = ap (λ (x : Edge). x.to) here in
    let yes : eqb e.from p ≡ true = eq-eqb e.from p from in
    rw yes (subst (λ (x : ℕ). Contains (e.to ∷ ends_of edges p) x) to (Contains-here e.to (ends_of edges p))))
    (λ (later : Contains edges (record { from = p; to = q })).
    let rest : Contains (ends_of edges p) q = ends-Contains edges p q later in
    elim (eqb e.from p) as (λ b. Contains (cond b (e.to ∷ ends_of edges p) (ends_of edges p)) q) [ true ↦ Contains-later e.to q (ends_of edges p) rest | false ↦ rest ])
    (Contains-cases e (record { from = p; to = q }) edges at))

pub Leads-within : (graph : List (List ℕ)) (p q : ℕ) → Leads graph p q → p < length graph
Leads-within graph p q leads = ⊎_elim
    (λ (low : p < length graph). low)
    (λ (past : length graph ≤ p). absurd (let none : get_or graph p [] ≡ [] = get_or_past graph p [] past in Contains-none q (subst (λ (ends : List ℕ). Contains ends q) none leads)))
    (cases_lt p (length graph))

-- the graph of the edges leads just where they do
pub HasEdges-Leads : (nodes : ℕ) (edges : List Edge) (graph : List (List ℕ)) → All (IsWithin nodes) edges → HasEdges nodes edges graph
    → (p q : ℕ) → Leads graph p q ↔ Contains edges (record { from = p; to = q })
HasEdges-Leads nodes edges graph within has p q = (
  (λ (leads : Leads graph p q). let node : p < nodes = subst (λ (n : ℕ). p < n) has.count (Leads-within graph p q leads) in
      Contains-ends edges p q (subst (λ (ends : List ℕ). Contains ends q) (has.ends p node) leads)),
  (λ (at : Contains edges (record { from = p; to = q })). let edge : IsWithin nodes (record { from = p; to = q }) = All-contains (IsWithin nodes) edges _ within at in
      subst (λ (ends : List ℕ). Contains ends q) (sym (has.ends p edge.from)) (ends-Contains edges p q at)),
)

ends-within : (nodes : ℕ) (edges : List Edge) (p : ℕ) → All (IsWithin nodes) edges → All (λ q. q < nodes) (ends_of edges p)
ends-within nodes edges p within =
    All-map (λ q. q < nodes) (λ (x : Edge). x.to) _ (All-filter (λ (x : Edge). eqb x.from p) (λ (x : Edge). x.to < nodes) edges (All-weaker (IsWithin nodes) (λ (x : Edge). x.to < nodes) (λ x at. at.to) edges within))

pub HasEdges-within : (nodes : ℕ) (edges : List Edge) (graph : List (List ℕ)) (count : ℕ) → All (IsWithin nodes) edges → HasEdges nodes edges graph
    → count ≡ length graph → All (All (λ q. q < count)) graph
HasEdges-within nodes edges graph count within has is =
    All-from_get_or (All (λ q. q < count)) graph [] (λ i low. rw (is, has.count, has.ends i (omega (arith, has.count))) (ends-within nodes edges i within))

-- ---- what is kept

-- a node's ends
pub IsGraph-within : (graph : List (List ℕ)) (p : ℕ) → IsGraph graph → p < length graph → All (λ q. q < length graph) (get_or graph p [])
IsGraph-within graph p is low = All-get_or (All (λ q. q < length graph)) graph p [] low is.within

pub IsGraph-closed : (graph : List (List ℕ)) → IsGraph graph → (p q : ℕ) → Leads graph p q → q < length graph
IsGraph-closed graph is p q leads =
    All-contains (λ q. q < length graph) (get_or graph p []) q (IsGraph-within graph p is (Leads-within graph p q leads)) leads

pub HasEdges-IsGraph : (nodes : ℕ) (edges : List Edge) (graph : List (List ℕ)) → nodes < 2 ^ 32 → All (IsWithin nodes) edges → HasEdges nodes edges graph → IsGraph graph
HasEdges-IsGraph nodes edges graph few within has = record {
  few = omega (arith, has.count, few);
  within = HasEdges-within nodes edges graph (length graph) within has refl;
}
