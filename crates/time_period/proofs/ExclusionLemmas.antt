-- Exclusions as edges of a graph, and its order.
use Rattle.std.proofs.Common.{◌≡◌, ℕ, zero, suc, ◌+◌, ◌<◌, ◌≤◌, eqb, List, [], ◌∷◌, length, get_or, slice_get, All, Contains, Some, refl, sym, ap, subst, arith}
use Rattle.std.specs.List.{IsDistinct}
use Rattle.std.proofs.lemmas.Bool.{eqb-true}
use Rattle.std.proofs.lemmas.Bool.Decides.{Decides-eqb}
use Rattle.std.proofs.lemmas.Map.Made.{IsDistinct-from_AllPairs}
use Rattle.std.proofs.lemmas.Map.Steps.{length-le_from_distinct_below}
use Rattle.std.proofs.lemmas.Map.Views.{Contains-from_any}
use Rattle.std.proofs.lemmas.List.Elements.{All-contains, All-cons, All-nil, All-append, Contains-append_left, Contains-append_right}
use Rattle.std.proofs.lemmas.Option.{slice_get_within}
use Rattle.graph.specs.declared.edges.Edge.{Edge}
use Rattle.graph.specs.claims.Edges.{Leads}
use Rattle.graph.specs.Edges.{IsWithin}
use Rattle.graph_order.specs.Order.{HasLoop, IsOrder}
use Rattle.due_model.specs.declared.config.Config.{Config}
use Rattle.due_model.specs.declared.config.Period.{Period}
use Rattle.due_model.specs.declared.config.PeriodId.{PeriodId}
use Rattle.due_model.specs.claims.Accepted.{Excludes, IsAccepted, PeriodFits}
use Rattle.lemmas.proofs.Lists.{All-slice_get}
use Rattle.lemmas.proofs.Chains.{Chain-map}
use Rattle.time_period.specs.Exclusions.{InOrder, edges_of, exclusion_edges}

-- an edge is of a period and one that it excludes
record IsEdge (periods : List Period) (first : ℕ) (edge : Edge) : Type 0 where
  at : ℕ
  period : Period
  found : slice_get periods at ≡ Some period
  from : edge.from ≡ first + at
  to : Contains period.excludes (record { 0 = edge.to })

IsEdge-later : (period : Period) (periods : List Period) (first : ℕ) (edge : Edge) → IsEdge periods (first + 1) edge → IsEdge (period ∷ periods) first edge
IsEdge-later period periods first edge is = record { at = suc is.at; period = is.period; found = is.found; from = omega (arith, is.from); to = is.to }

own_edges : (period : Period) (periods : List Period) (first : ℕ) (excludes : List PeriodId) → ((x : PeriodId) → Contains excludes x → Contains period.excludes x)
    → All (IsEdge (period ∷ periods) first) (edges_of first excludes)
own_edges period periods first [] all = All-nil _
own_edges period periods first (x ∷ xs) all =
    All-cons (IsEdge (period ∷ periods) first) (record { from = first; to = x.0 }) (edges_of first xs)
    (record { at = 0; period = period; found = refl; from = omega arith; to = all x (0, omega arith, refl) })
    (own_edges period periods first xs (λ y h. all y (suc h.0, omega (arith, h.1), h.2)))

all_edges : (periods : List Period) (first : ℕ) → All (IsEdge periods first) (exclusion_edges first periods)
all_edges [] first = All-nil _
all_edges (period ∷ periods) first =
    All-append (IsEdge (period ∷ periods) first) (edges_of first period.excludes) (exclusion_edges (first + 1) periods)
    (own_edges period periods first period.excludes (λ x h. h))
    (λ k d within. IsEdge-later period periods first _ (all_edges periods (first + 1) k d within))

-- and each of these is there
edge_in : (first : ℕ) (excludes : List PeriodId) (x : PeriodId) → Contains excludes x → Contains (edges_of first excludes) (record { from = first; to = x.0 })
edge_in first [] x (k, within, at) = absurd (omega (arith, within))
edge_in first (y ∷ ys) x (zero, within, at) = (0, omega arith, ap (λ (z : PeriodId). record { from = first; to = z.0 }) at)
edge_in first (y ∷ ys) x (suc k, within, at) =
    let (j, low, is) = edge_in first ys x (k, omega (arith, within), at) in
    (suc j, omega (arith, low), is)

edge_there : (periods : List Period) (first p : ℕ) (period : Period) (x : PeriodId) → slice_get periods p ≡ Some period → Contains period.excludes x
    → Contains (exclusion_edges first periods) (record { from = first + p; to = x.0 })
edge_there [] first p period x at h = cc
edge_there (q ∷ qs) first zero period x at h =
    let same : q ≡ period = cc in
    let sum : first ≡ first + 0 = omega arith in
    subst (λ (n : ℕ). Contains (exclusion_edges first (q ∷ qs)) (record { from = n; to = x.0 })) sum
    (Contains-append_left (edges_of first q.excludes) (exclusion_edges (first + 1) qs) (record { from = first; to = x.0 })
    (edge_in first q.excludes x (subst (λ (r : Period). Contains r.excludes x) (sym same) h)))
edge_there (q ∷ qs) first (suc p) period x at h =
    let sum : (first + 1) + p ≡ first + suc p = omega arith in
    Contains-append_right (edges_of first q.excludes) (exclusion_edges (first + 1) qs) (record { from = first + suc p; to = x.0 })
    (subst (λ (n : ℕ). Contains (exclusion_edges (first + 1) qs) (record { from = n; to = x.0 })) sum (edge_there qs (first + 1) p period x at h))

module _ (c : Config) (accepted : IsAccepted c) where
  to_below : (p q : ℕ) → Excludes c p q → q < length c.periods
  to_below p q h =
      let fits : PeriodFits c h.0 = All-slice_get (PeriodFits c) c.periods p h.0 accepted.periods h.1 in
      All-contains (λ (x : PeriodId). x.0 < length c.periods) h.0.excludes (record { 0 = q }) fits.excludes h.2

  of_edge : (edge : Edge) → IsEdge c.periods 0 edge → Excludes c edge.from edge.to
  of_edge edge is =
      let same : is.at ≡ edge.from = omega (arith, is.from) in
      (is.period, subst (λ (n : ℕ). slice_get c.periods n ≡ Some is.period) same is.found, is.to)

  pub edges_within : (edges : List Edge) → edges ≡ exclusion_edges 0 c.periods → All (IsWithin (length c.periods)) edges
  edges_within edges e = subst (All (IsWithin (length c.periods))) (sym e) (λ k d within.
      let excludes = of_edge _ (all_edges c.periods 0 k d within) in
      record { from = slice_get_within c.periods _ excludes.0 excludes.1; to = to_below _ _ excludes })

  module _ (edges : List Edge) (are : edges ≡ exclusion_edges 0 c.periods) (nodes : List (List ℕ))
      (leads : (p q : ℕ) → ((Leads nodes p q → Contains edges (record { from = p; to = q })) × (Contains edges (record { from = p; to = q }) → Leads nodes p q))) where
    leads_from : (p q : ℕ) → Leads nodes p q → Excludes c p q
    leads_from p q h =
        let at = subst (λ (es : List Edge). Contains es (record { from = p; to = q })) are ((leads p q).0 h) in
        of_edge (record { from = p; to = q }) (All-contains (IsEdge c.periods 0) (exclusion_edges 0 c.periods) (record { from = p; to = q }) (all_edges c.periods 0) at)

    leads_to : (p q : ℕ) → Excludes c p q → Leads nodes p q
    leads_to p q h =
        let at = edge_there c.periods 0 p h.0 (record { 0 = q }) h.1 h.2 in
        let sum : 0 + p ≡ p = omega arith in
        (leads p q).1 (subst (λ (es : List Edge). Contains es (record { from = p; to = q })) (sym are)
        (subst (λ (n : ℕ). Contains (exclusion_edges 0 c.periods) (record { from = n; to = q })) sum at))

    pub no_loop : HasLoop nodes → ⊥
    no_loop loop = accepted.no_period_loop loop.2.0 loop.0 (Chain-map (Leads nodes) (Excludes c) leads_from (suc loop.2.0) loop.0 loop.0 loop.2.1)

    pub in_order : (order : List ℕ) → length nodes ≡ length c.periods → IsOrder nodes order → InOrder c order
    in_order order same is = record {
      each = λ p h. is.each p (omega (arith, h, same));
      within = λ k d h. under (is.within k d h);
      few = few;
      forward = λ i j low high h. is.forward i j low high (leads_to (get_or order i 0) (get_or order j 0) h);
    }
      where
        under : {m : ℕ} → m < length nodes → m < length c.periods
        under h = omega (arith, h, same)

        few : length order ≤ length c.periods
        few =
            let distinct : IsDistinct eqb order = IsDistinct-from_AllPairs Decides-eqb order is.once in
            length-le_from_distinct_below order (length c.periods) distinct
            (λ q any. under (All-contains (λ m. m < length nodes) order q is.within (Contains-from_any eqb-true q order any)))
