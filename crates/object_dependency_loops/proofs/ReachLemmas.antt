-- Nodes that lead to others that were there before them.
use Rattle.std.proofs.Common.{◌≡◌, ℕ, zero, suc, ◌+◌, ◌<◌, ◌≤◌, List, [], ◌∷◌, ◌++◌, append_assoc, length, map, take, get_or, sym, ap, subst, ◌∙◌, ◌⊎◌, inl, inr, arith}
use Rattle.std.specs.Prelude.{All, Contains, ◌↔◌}
use Rattle.std.specs.List.{range_with_len}
use Rattle.std.proofs.lemmas.List.{map-append, take_more}
use Rattle.std.proofs.lemmas.List.Elements.{All-contains, Contains-append_cases, Contains-append_left, Contains-append_right}
use Rattle.graph.specs.declared.edges.Edge.{Edge}
use Rattle.graph.specs.claims.Chains.{Chain, Reaches}
use Rattle.graph.specs.Edges.{IsWithin}
use Rattle.lemmas.proofs.Chains.{Chain-map}
use Rattle.lemmas.proofs.Numbers.{below_more}
use Rattle.object_groups.specs.declared.lists.Direction.TheVariants.{ToNames}
use Rattle.object_groups.specs.ListEdges.{edge, IsEdge, LeadOver, list_edges}
use Rattle.object_groups.specs.ReachLaws.{Listed, list-edge, of-list}

pub reaches-map : (R S : ℕ → ℕ → Type 0) → ((p q : ℕ) → R p q → S p q) → (p q : ℕ) → Reaches R p q → Reaches S p q
reaches-map R S f p q reaches = (reaches.0, Chain-map R S f reaches.0 p q reaches.1)

pub reaches-step : (R : ℕ → ℕ → Type 0) (p q r : ℕ) → R p q → Reaches R q r → Reaches R p r
reaches-step R p q r leads reaches = (suc reaches.0, (q, leads, reaches.1))

-- ---- edges over which others lead

pub over-on : (n m k : ℕ) (whole one two : List Edge) → LeadOver n whole m one → LeadOver m one k two → LeadOver n whole k two
over-on n m k whole one two first second =
    let few = first.more in
    let further = second.more in
    record {
      more = omega (arith, few, further);
      within = second.within;
      same = λ p q from to.
          let later = second.same p q (omega (arith, few, from)) (omega (arith, few, to)) in
          let before = first.same p q from to in (
            (λ (reaches : Reaches (IsEdge two) p q). before.0 (later.0 reaches)),
            (λ (reaches : Reaches (IsEdge whole) p q). later.1 (before.1 reaches)),
          );
    }

-- ---- new nodes

-- the edges of nodes up to a bound, and those of nodes from there on to such
module _ (R T : ℕ → ℕ → Type 0) (bound : ℕ) (inside : (p q : ℕ) → R p q → (p < bound) × (q < bound)) (beyond : (p q : ℕ) → T p q → (bound ≤ p) × (q < bound)) where
  abbrev Both : ℕ → ℕ → Type 0
  Both p q = R p q ⊎ T p q

  stays : (steps p q : ℕ) → p < bound → Chain Both steps p q → Reaches R p q
  stays zero p q low chain = (0, chain)
  stays (suc steps) p q low (middle, inl led, chain) = reaches-step R p middle q led (stays steps middle q (inside p middle led).1 chain)
  stays (suc steps) p q low (middle, inr led, chain) = let past = (beyond p middle led).0 in absurd (omega (arith, low, past))

  pub both-stay : (p q : ℕ) → p < bound → Reaches Both p q → Reaches R p q
  both-stay p q low reaches = stays reaches.0 p q low reaches.1

  pub both-keep : (p q : ℕ) → Reaches R p q → Reaches Both p q
  both-keep p q reaches = reaches-map R Both (λ a b led. inl led) p q reaches

  leaves : (steps p q : ℕ) → bound ≤ p → q < bound → Chain Both steps p q → (x : ℕ) × T p x × Reaches R x q
  leaves zero p q past low chain = absurd (omega (arith, past, low, chain))
  leaves (suc steps) p q past low (middle, inl led, chain) = let few = (inside p middle led).0 in absurd (omega (arith, past, few))
  leaves (suc steps) p q past low (middle, inr led, chain) = (middle, led, stays steps middle q (beyond p middle led).1 chain)

  pub both-leave : (p q : ℕ) → bound ≤ p → q < bound → Reaches Both p q → (x : ℕ) × T p x × Reaches R x q
  both-leave p q past low reaches = leaves reaches.0 p q past low reaches.1

  pub both-enter : (p x q : ℕ) → T p x → Reaches R x q → Reaches Both p q
  both-enter p x q led reaches = reaches-step Both p x q (inr led) (both-keep x q reaches)

-- ---- the same of edges: new nodes, each with a list of ends

module _ (bound count : ℕ) (lists : ℕ → List ℕ) (old : List Edge) (within : All (IsWithin bound) old) (below : (k x : ℕ) → k < count → Contains (lists k) x → x < bound) where
  abbrev added : List Edge
  added = list_edges ToNames bound count lists

  inside : (p q : ℕ) → IsEdge old p q → (p < bound) × (q < bound)
  inside p q at = let both = All-contains (IsWithin bound) old (edge p q) within at in (both.from, both.to)

  listed : (p q : ℕ) → IsEdge added p q → Listed bound count lists p q
  listed p q at = list-edge ToNames bound count lists p q at

  beyond : (p q : ℕ) → IsEdge added p q → (bound ≤ p) × (q < bound)
  beyond p q at =
      let on = listed p q at in
      let is = on.2 in
      (omega (arith, is), below on.0 q on.1 on.3)

  to_either : (p q : ℕ) → IsEdge (old ++ added) p q → IsEdge old p q ⊎ IsEdge added p q
  to_either p q at = Contains-append_cases old added (edge p q) at

  of_either : (p q : ℕ) → IsEdge old p q ⊎ IsEdge added p q → IsEdge (old ++ added) p q
  of_either p q (inl at) = Contains-append_left old added (edge p q) at
  of_either p q (inr at) = Contains-append_right old added (edge p q) at

  old_same : (p q : ℕ) → p < bound → Reaches (IsEdge (old ++ added)) p q ↔ Reaches (IsEdge old) p q
  old_same p q low = (
    (λ reaches. both-stay (IsEdge old) (IsEdge added) bound inside beyond p q low
        (reaches-map (IsEdge (old ++ added)) (λ a b. IsEdge old a b ⊎ IsEdge added a b) to_either p q reaches)),
    (λ reaches. reaches-map (λ a b. IsEdge old a b ⊎ IsEdge added a b) (IsEdge (old ++ added)) of_either p q
        (both-keep (IsEdge old) (IsEdge added) bound inside beyond p q reaches)),
  )

  new_reach : (k q : ℕ) → k < count → q < bound → Reaches (IsEdge (old ++ added)) (bound + k) q ↔ ((x : ℕ) × Contains (lists k) x × Reaches (IsEdge old) x q)
  new_reach k q few low = (
    (λ reaches.
        let out = both-leave (IsEdge old) (IsEdge added) bound inside beyond (bound + k) q (omega arith) low
        (reaches-map (IsEdge (old ++ added)) (λ a b. IsEdge old a b ⊎ IsEdge added a b) to_either (bound + k) q reaches) in
        let on = listed (bound + k) out.0 out.1 in
        let is = on.2 in
        let same : on.0 ≡ k = omega (arith, is) in
        (out.0, subst (λ (j : ℕ). Contains (lists j) out.0) same on.3, out.2)),
    (λ some. reaches-map (λ a b. IsEdge old a b ⊎ IsEdge added a b) (IsEdge (old ++ added)) of_either (bound + k) q
        (both-enter (IsEdge old) (IsEdge added) bound inside beyond (bound + k) some.0 q (of-list ToNames bound count lists k some.0 few some.1) some.2)),
  )

  module _ (next : ℕ) (new : List Edge) (over : LeadOver (bound + count) (old ++ added) next new) where
    pub nodes-over : LeadOver bound old next new
    nodes-over =
        let few = over.more in
        record {
          more = omega (arith, few);
          within = over.within;
          same = λ p q from to.
              let later = over.same p q (omega (arith, from)) (omega (arith, to)) in
              let before = old_same p q from in (
                (λ reaches. before.0 (later.0 reaches)),
                (λ reaches. later.1 (before.1 reaches)),
              );
        }

    pub nodes-reach : (k q : ℕ) → k < count → q < bound → Reaches (IsEdge new) (bound + k) q ↔ ((x : ℕ) × Contains (lists k) x × Reaches (IsEdge old) x q)
    nodes-reach k q few low =
        let later = over.same (bound + k) q (omega (arith, few)) (omega (arith, low)) in
        let before = new_reach k q few low in
        ((λ reaches. before.0 (later.0 reaches)), (λ some. later.1 (before.1 some)))

-- ---- one more

pub mapped-more : (f : ℕ → Edge) (first old new : List Edge) (n : ℕ) (one : Edge) → old ≡ first ++ map f (range_with_len 0 n) → new ≡ old ++ one ∷ [] → one ≡ f n
    → new ≡ first ++ map f (range_with_len 0 (n + 1))
mapped-more f first old new n one before more is =
    more ∙ ap (λ (es : List Edge). es ++ one ∷ []) before ∙ append_assoc first (map f (range_with_len 0 n)) (one ∷ [])
    ∙ ap (λ (e : Edge). first ++ (map f (range_with_len 0 n) ++ e ∷ [])) is
    ∙ ap (λ (es : List Edge). first ++ es) (sym (ap (map f) (below_more n) ∙ map-append f (range_with_len 0 n) (n ∷ [])))

pub ends-more : (f : ℕ → Edge) (g : ℕ → ℕ) (first old new : List Edge) (xs : List ℕ) (i d : ℕ) → i < length xs → old ≡ first ++ map f (map g (take i xs)) → new ≡ old ++ f (g (get_or xs i d)) ∷ []
    → new ≡ first ++ map f (map g (take (i + 1) xs))
ends-more f g first old new xs i d within before more =
    more ∙ ap (λ (es : List Edge). es ++ f (g (get_or xs i d)) ∷ []) before ∙ append_assoc first (map f (map g (take i xs))) (f (g (get_or xs i d)) ∷ [])
    ∙ ap (λ (es : List Edge). first ++ es)
    (sym (ap (λ (ys : List ℕ). map f (map g ys)) (take_more xs i d within) ∙ ap (map f) (map-append g (take i xs) (get_or xs i d ∷ [])) ∙ map-append f (map g (take i xs)) (g (get_or xs i d) ∷ [])))
