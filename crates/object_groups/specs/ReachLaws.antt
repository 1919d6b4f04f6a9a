-- Laws of edges that lead over other nodes: lists that are shared reach what whole lists do.
use Rattle.std.proofs.Common.{◌≡◌, ℕ, zero, suc, ◌+◌, ◌<◌, ◌≤◌, List, ◌++◌, get_or, map, refl, sym, subst, ◌⊎◌, inl, inr, ⊎_elim, arith}
use Rattle.std.specs.Prelude.{All, Contains, ◌↔◌}
use Rattle.std.specs.List.{range_with_len}
use Rattle.std.proofs.lemmas.List.Elements.{All-contains, All-from_get_or, Contains-append_cases, Contains-append_left, Contains-append_right, Contains-get_or}
use Rattle.graph.specs.declared.edges.Edge.{Edge}
use Rattle.graph.specs.claims.Chains.{Chain, Reaches}
use Rattle.graph.specs.Edges.{IsWithin}
use Rattle.lemmas.proofs.Chains.{Chain-map, Reaches-join}
use Rattle.lemmas.proofs.Elements.{Contains-flat_map, Contains-from_flat_map, Contains-from_map, Contains-from_range, Contains-map, Contains-range}
use Rattle.object_groups.specs.declared.lists.Direction.{Direction}
use Rattle.object_groups.specs.declared.lists.Direction.TheVariants.{FromNames, ToNames}
use Rattle.object_groups.specs.ListEdges.{between, edge, IsEdge, LeadOver, list_edges, SameReached}
use Rattle.object_groups.specs.NodeLaws.{edge-from, edge-to}

-- ---- chains turned round

abbrev pub Turned : (ℕ → ℕ → Type 0) → ℕ → ℕ → Type 0
Turned R from to = R to from

chain-turned : (R : ℕ → ℕ → Type 0) (steps p q : ℕ) → Chain R steps p q → Reaches (Turned R) q p
chain-turned R zero p q chain = (0, sym chain)
chain-turned R (suc steps) p q (middle, leads, chain) = Reaches-join (Turned R) q middle p (chain-turned R steps middle q chain) (1, (p, leads, refl))

reaches-turned : (R : ℕ → ℕ → Type 0) (p q : ℕ) → Reaches R p q → Reaches (Turned R) q p
reaches-turned R p q (steps, chain) = chain-turned R steps p q chain

reaches-map : (R S : ℕ → ℕ → Type 0) → ((p q : ℕ) → R p q → S p q) → (p q : ℕ) → Reaches R p q → Reaches S p q
reaches-map R S f p q (steps, chain) = (steps, Chain-map R S f steps p q chain)

reaches-step : (R : ℕ → ℕ → Type 0) (p q r : ℕ) → R p q → Reaches R q r → Reaches R p r
reaches-step R p q r leads (steps, chain) = (suc steps, (q, leads, chain))

-- ---- shared lists, as relations

-- something is a node that the list has, or that of a shared list of which it has all
abbrev pub OfList : (count bound : ℕ) → (whole : ℕ → List ℕ) → (list : List ℕ) → ℕ → Type 0
OfList count bound whole list x = Contains list x
    ⊎ ((r : ℕ) × (r < bound) × (x ≡ count + r) × ((y : ℕ) → Contains (whole r) y → Contains list y))

-- the parts have a node, or that of a shared list that has it
abbrev pub InParts : (count bound : ℕ) → (whole : ℕ → List ℕ) → (parts : List ℕ) → ℕ → Type 0
InParts count bound whole parts y = Contains parts y
    ⊎ ((r : ℕ) × (r < bound) × Contains parts (count + r) × Contains (whole r) y)

-- The parts of so many lists stand for what these have, and those of so many shared lists, whose nodes begin at
-- `count`, for what these have.
pub record StandFor (count lists shared : ℕ) (plain tops inner whole : ℕ → List ℕ) : Type 0 where
  pub top_only : (k x : ℕ) → k < lists → Contains (tops k) x → OfList count shared whole (plain k) x
  pub top_each : (k y : ℕ) → k < lists → Contains (plain k) y → InParts count shared whole (tops k) y
  pub inner_only : (j x : ℕ) → j < shared → Contains (inner j) x → OfList count shared whole (whole j) x
  pub inner_each : (j y : ℕ) → j < shared → Contains (whole j) y → InParts count j whole (inner j) y
  pub plain_within : (k y : ℕ) → k < lists → Contains (plain k) y → y < count
  pub whole_within : (j y : ℕ) → j < shared → Contains (whole j) y → y < count

-- an edge from one of so many lists
abbrev pub Listed : (node lists : ℕ) → (nodes : ℕ → List ℕ) → (from to : ℕ) → Type 0
Listed node lists nodes from to = (k : ℕ) × (k < lists) × (from ≡ node + k) × Contains (nodes k) to

-- the edges of whole lists beside others
abbrev Whole : (Rest : ℕ → ℕ → Type 0) → (node lists : ℕ) → (plain : ℕ → List ℕ) → (from to : ℕ) → Type 0
Whole Rest node lists plain from to = Rest from to ⊎ Listed node lists plain from to

-- and those of their parts
abbrev Parted : (Rest : ℕ → ℕ → Type 0) → (node lists count shared : ℕ) → (tops inner : ℕ → List ℕ) → (from to : ℕ) → Type 0
Parted Rest node lists count shared tops inner from to = Rest from to ⊎ (Listed node lists tops from to ⊎ Listed count shared inner from to)

module _ (count node lists shared : ℕ) (plain tops inner whole : ℕ → List ℕ) (stand : StandFor count lists shared plain tops inner whole)
    (below : node + lists ≤ count) (Rest : ℕ → ℕ → Type 0) (inside : (p q : ℕ) → Rest p q → (p < count) × (q < count)) where
  abbrev W : ℕ → ℕ → Type 0
  W = Whole Rest node lists plain

  abbrev P : ℕ → ℕ → Type 0
  P = Parted Rest node lists count shared tops inner

  module _ (end : ℕ) (there : end < count) where
    -- what it means that a node leads to the end
    record Means (at : ℕ) : Type 0 where
      pub old : at < count → Reaches W at end
      pub list : (j : ℕ) → j < shared → at ≡ count + j → (y : ℕ) × Contains (whole j) y × Reaches W y end

    means_end : Means end
    means_end = record {
      old = λ low. (0, refl);
      list = λ j few is. absurd (omega (arith, there, is));
    }

    means_old : (at : ℕ) → at < count → Reaches W at end → Means at
    means_old at low reaches = record {
      old = λ same. reaches;
      list = λ j few is. absurd (omega (arith, low, is));
    }

    means_list : (at j y : ℕ) → j < shared → at ≡ count + j → Contains (whole j) y → Reaches W y end → Means at
    means_list at j y few is on reaches = record {
      old = λ low. absurd (omega (arith, low, is));
      list = λ i less same. let alike : j ≡ i = omega (arith, is, same) in (y, subst (λ (k : ℕ). Contains (whole k) y) alike on, reaches);
    }

    means_top : (p q k : ℕ) → k < lists → p ≡ node + k → OfList count shared whole (plain k) q → Means q → Means p
    means_top p q k few is (inl plainly) means =
        means_old p (omega (arith, few, is, below))
        (reaches-step W p q end (inr (k, few, is, plainly)) (means.old (stand.plain_within k q few plainly)))
    means_top p q k few is (inr (r, less, here, all)) means =
        let more = means.list r less here in
        means_old p (omega (arith, few, is, below)) (reaches-step W p more.0 end (inr (k, few, is, all more.0 more.1)) more.2)

    means_inner : (p q j : ℕ) → j < shared → p ≡ count + j → OfList count shared whole (whole j) q → Means q → Means p
    means_inner p q j few is (inl wholly) means = means_list p j q few is wholly (means.old (stand.whole_within j q few wholly))
    means_inner p q j few is (inr (r, less, here, all)) means =
        let more = means.list r less here in
        means_list p j more.0 few is (all more.0 more.1) more.2

    means_step : (p q : ℕ) → P p q → Means q → Means p
    means_step p q (inl rest) means = means_old p (inside p q rest).0 (reaches-step W p q end (inl rest) (means.old (inside p q rest).1))
    means_step p q (inr (inl (k, few, is, at))) means = means_top p q k few is (stand.top_only k q few at) means
    means_step p q (inr (inr (j, few, is, at))) means = means_inner p q j few is (stand.inner_only j q few at) means

    means_chain : (steps p : ℕ) → Chain P steps p end → Means p
    means_chain zero p chain = subst Means (sym chain) means_end
    means_chain (suc steps) p (middle, leads, chain) = means_step p middle leads (means_chain steps middle chain)

  -- a shared list leads to what it has
  inner_reaches : (limit j y : ℕ) → j < limit → j < shared → Contains (whole j) y → Reaches P (count + j) y
  inner_reaches zero j y low few on = absurd (omega (arith, low))
  inner_reaches (suc limit) j y low few on = ⊎_elim
      (λ (here : Contains (inner j) y). reaches-step P (count + j) y y (inr (inr (j, few, refl, here))) (0, refl))
      (λ (further : (r : ℕ) × (r < j) × Contains (inner j) (count + r) × Contains (whole r) y).
      let less = further.1 in
      reaches-step P (count + j) (count + further.0) y (inr (inr (j, few, refl, further.2)))
      (inner_reaches limit further.0 y (omega (arith, low, less)) (omega (arith, few, less)) further.3))
      (stand.inner_each j y few on)

  whole_step : (p q : ℕ) → W p q → Reaches P p q
  whole_step p q (inl rest) = reaches-step P p q q (inl rest) (0, refl)
  whole_step p q (inr (k, few, is, at)) = ⊎_elim
      (λ (here : Contains (tops k) q). reaches-step P p q q (inr (inl (k, few, is, here))) (0, refl))
      (λ (further : (r : ℕ) × (r < shared) × Contains (tops k) (count + r) × Contains (whole r) q).
      reaches-step P p (count + further.0) q (inr (inl (k, few, is, further.2)))
      (inner_reaches (suc further.0) further.0 q (omega arith) further.1 further.3))
      (stand.top_each k q few at)

  whole_chain : (steps p q : ℕ) → Chain W steps p q → Reaches P p q
  whole_chain zero p q chain = (0, chain)
  whole_chain (suc steps) p q (middle, leads, chain) = Reaches-join P p middle q (whole_step p middle leads) (whole_chain steps middle q chain)

  -- among the nodes before those of the shared lists, parts lead to what whole lists do
  parts-reach : (p q : ℕ) → p < count → q < count → Reaches P p q ↔ Reaches W p q
  parts-reach p q from to = (
    (λ (reaches : Reaches P p q). (means_chain q to reaches.0 p reaches.1).old from),
    (λ (reaches : Reaches W p q). whole_chain reaches.0 p q reaches.1),
  )

  of-list-within : (list : List ℕ) (x : ℕ) → ((y : ℕ) → Contains list y → y < count) → OfList count shared whole list x → x < count + shared
  of-list-within list x each (inl plainly) = let low = each x plainly in omega (arith, low)
  of-list-within list x each (inr (r, less, here, all)) = omega (arith, less, here)

  parts-within : (p q : ℕ) → P p q → (p < count + shared) × (q < count + shared)
  parts-within p q (inl rest) = let both = inside p q rest in ((let low = both.0 in omega (arith, low)), (let low = both.1 in omega (arith, low)))
  parts-within p q (inr (inl (k, few, is, at))) =
      (omega (arith, few, is, below), of-list-within (plain k) q (λ y. stand.plain_within k y few) (stand.top_only k q few at))
  parts-within p q (inr (inr (j, few, is, at))) =
      (omega (arith, few, is), of-list-within (whole j) q (λ y. stand.whole_within j y few) (stand.inner_only j q few at))

-- ---- the edges of lists

-- a relation seen in a direction
abbrev pub Along : Direction → (ℕ → ℕ → Type 0) → ℕ → ℕ → Type 0
Along ToNames R = R
Along FromNames R = Turned R

reach-along : (direction : Direction) (R S : ℕ → ℕ → Type 0) → ((p q : ℕ) → R p q → Along direction S p q) → (p q : ℕ) → Reaches R p q → Along direction (Reaches S) p q
reach-along ToNames R S f p q reaches = reaches-map R S f p q reaches
reach-along FromNames R S f p q reaches = reaches-map (Turned R) S (λ a b. f b a) q p (reaches-turned R p q reaches)

reach-back : (direction : Direction) (R S : ℕ → ℕ → Type 0) → ((p q : ℕ) → Along direction R p q → S p q) → (p q : ℕ) → Along direction (Reaches R) p q → Reaches S p q
reach-back ToNames R S f p q reaches = reaches-map R S f p q reaches
reach-back FromNames R S f p q reaches = reaches-map (Turned R) S f p q (reaches-turned R q p reaches)

same-along : (direction : Direction) (R S : ℕ → ℕ → Type 0) (count : ℕ) → ((p q : ℕ) → p < count → q < count → R p q ↔ S p q)
    → (p q : ℕ) → p < count → q < count → Along direction R p q ↔ Along direction S p q
same-along ToNames R S count same p q from to = same p q from to
same-along FromNames R S count same p q from to = same q p to from

-- what an edge of lists is
pub list-edge : (direction : Direction) (node lists : ℕ) (nodes : ℕ → List ℕ) (from to : ℕ) → IsEdge (list_edges direction node lists nodes) from to
    → Along direction (Listed node lists nodes) from to
list-edge ToNames node lists nodes from to at =
    let on = Contains-from_flat_map (λ k. map (between ToNames (node + k)) (nodes k)) (range_with_len 0 lists) (edge from to) at in
    let one = Contains-from_map (between ToNames (node + on.0)) (nodes on.0) (edge from to) on.2 in (
      on.0,
      Contains-from_range lists on.0 on.1,
      edge-from (node + on.0) one.0 from to one.2,
      subst (λ (k : ℕ). Contains (nodes on.0) k) (sym (edge-to (node + on.0) one.0 from to one.2)) one.1,
    )
list-edge FromNames node lists nodes from to at =
    let on = Contains-from_flat_map (λ k. map (between FromNames (node + k)) (nodes k)) (range_with_len 0 lists) (edge from to) at in
    let one = Contains-from_map (between FromNames (node + on.0)) (nodes on.0) (edge from to) on.2 in (
      on.0,
      Contains-from_range lists on.0 on.1,
      edge-to one.0 (node + on.0) from to one.2,
      subst (λ (k : ℕ). Contains (nodes on.0) k) (sym (edge-from one.0 (node + on.0) from to one.2)) one.1,
    )

-- each of them is there
pub of-list : (direction : Direction) (node lists : ℕ) (nodes : ℕ → List ℕ) (k x : ℕ) → k < lists → Contains (nodes k) x
    → Contains (list_edges direction node lists nodes) (between direction (node + k) x)
of-list direction node lists nodes k x few at =
    Contains-flat_map (λ i. map (between direction (node + i)) (nodes i)) (range_with_len 0 lists) k (between direction (node + k) x) (Contains-range lists k few)
    (Contains-map (between direction (node + k)) (nodes k) x at)

edge-listed : (direction : Direction) (node lists : ℕ) (nodes : ℕ → List ℕ) (from to : ℕ) → Along direction (Listed node lists nodes) from to
    → IsEdge (list_edges direction node lists nodes) from to
edge-listed ToNames node lists nodes from to (k, few, is, at) =
    subst (λ (a : ℕ). IsEdge (list_edges ToNames node lists nodes) a to) (sym is) (of-list ToNames node lists nodes k to few at)
edge-listed FromNames node lists nodes from to (k, few, is, at) =
    subst (λ (b : ℕ). IsEdge (list_edges FromNames node lists nodes) from b) (sym is) (of-list FromNames node lists nodes k from few at)

module _ (direction : Direction) (count node lists shared : ℕ) (plain tops inner : ℕ → List ℕ) (old : List Edge) where
  abbrev wholly : List Edge
  wholly = old ++ list_edges direction node lists plain

  abbrev parted : List Edge
  parted = old ++ list_edges direction node lists tops ++ list_edges direction count shared inner

  -- the edges that were there
  abbrev Before : ℕ → ℕ → Type 0
  Before = Along direction (IsEdge old)

  either-along : (R S : ℕ → ℕ → Type 0) (p q : ℕ) → Along direction R p q ⊎ Along direction S p q → Along direction (λ a b. R a b ⊎ S a b) p q
  either-along R S p q = elim direction as (λ d. Along d R p q ⊎ Along d S p q → Along d (λ a b. R a b ⊎ S a b) p q) [
    | ToNames ↦ λ both. both
    | FromNames ↦ λ both. both
  ]

  along-either : (R S : ℕ → ℕ → Type 0) (p q : ℕ) → Along direction (λ a b. R a b ⊎ S a b) p q → Along direction R p q ⊎ Along direction S p q
  along-either R S p q = elim direction as (λ d. Along d (λ a b. R a b ⊎ S a b) p q → Along d R p q ⊎ Along d S p q) [
    | ToNames ↦ λ both. both
    | FromNames ↦ λ both. both
  ]

  there-before : (p q : ℕ) → IsEdge old p q → Along direction Before p q
  there-before p q at = elim direction as (λ d. Along d (Along d (IsEdge old)) p q) [ ToNames ↦ at | FromNames ↦ at ]

  before-there : (p q : ℕ) → Along direction Before p q → IsEdge old p q
  before-there p q = elim direction as (λ d. Along d (Along d (IsEdge old)) p q → IsEdge old p q) [ ToNames ↦ λ at. at | FromNames ↦ λ at. at ]

  whole-edge : (p q : ℕ) → IsEdge wholly p q → Along direction (Whole Before node lists plain) p q
  whole-edge p q at = either-along Before (Listed node lists plain) p q (⊎_elim
      (λ (first : IsEdge old p q). inl (there-before p q first))
      (λ (last : IsEdge (list_edges direction node lists plain) p q). inr (list-edge direction node lists plain p q last))
      (Contains-append_cases old (list_edges direction node lists plain) (edge p q) at))

  edge-whole : (p q : ℕ) → Along direction (Whole Before node lists plain) p q → IsEdge wholly p q
  edge-whole p q along = ⊎_elim
      (λ (first : Along direction Before p q). Contains-append_left old (list_edges direction node lists plain) (edge p q) (before-there p q first))
      (λ (last : Along direction (Listed node lists plain) p q). Contains-append_right old (list_edges direction node lists plain) (edge p q) (edge-listed direction node lists plain p q last))
      (along-either Before (Listed node lists plain) p q along)

  abbrev Parts : ℕ → ℕ → Type 0
  Parts a b = Listed node lists tops a b ⊎ Listed count shared inner a b

  part-edge : (p q : ℕ) → IsEdge parted p q → Along direction (Parted Before node lists count shared tops inner) p q
  part-edge p q at = either-along Before Parts p q (⊎_elim
      (λ (front : IsEdge (old ++ list_edges direction node lists tops) p q). ⊎_elim
      (λ (first : IsEdge old p q). inl (there-before p q first))
      (λ (top : IsEdge (list_edges direction node lists tops) p q).
      inr (either-along (Listed node lists tops) (Listed count shared inner) p q (inl (list-edge direction node lists tops p q top))))
      (Contains-append_cases old (list_edges direction node lists tops) (edge p q) front))
      (λ (last : IsEdge (list_edges direction count shared inner) p q).
      inr (either-along (Listed node lists tops) (Listed count shared inner) p q (inr (list-edge direction count shared inner p q last))))
      (Contains-append_cases (old ++ list_edges direction node lists tops) (list_edges direction count shared inner) (edge p q) at))

  edge-part : (p q : ℕ) → Along direction (Parted Before node lists count shared tops inner) p q → IsEdge parted p q
  edge-part p q along = ⊎_elim
      (λ (first : Along direction Before p q).
      Contains-append_left (old ++ list_edges direction node lists tops) (list_edges direction count shared inner) (edge p q)
      (Contains-append_left old (list_edges direction node lists tops) (edge p q) (before-there p q first)))
      (λ (parts : Along direction Parts p q). ⊎_elim
      (λ (top : Along direction (Listed node lists tops) p q).
      Contains-append_left (old ++ list_edges direction node lists tops) (list_edges direction count shared inner) (edge p q)
      (Contains-append_right old (list_edges direction node lists tops) (edge p q) (edge-listed direction node lists tops p q top)))
      (λ (last : Along direction (Listed count shared inner) p q).
      Contains-append_right (old ++ list_edges direction node lists tops) (list_edges direction count shared inner) (edge p q)
      (edge-listed direction count shared inner p q last))
      (along-either (Listed node lists tops) (Listed count shared inner) p q parts))
      (along-either Before Parts p q along)

  module _ (whole : ℕ → List ℕ) (stand : StandFor count lists shared plain tops inner whole) (below : node + lists ≤ count) (inside : All (IsWithin count) old) where
    before-inside : (p q : ℕ) → Before p q → (p < count) × (q < count)
    before-inside p q = elim direction as (λ d. Along d (IsEdge old) p q → (p < count) × (q < count)) [
      | ToNames ↦ λ at. (let both = All-contains (IsWithin count) old (edge p q) inside at in (both.from, both.to))
      | FromNames ↦ λ at. (let both = All-contains (IsWithin count) old (edge q p) inside at in (both.to, both.from))
    ]

    same : SameReached count parted wholly
    same p q from to =
        let alike = same-along direction (Reaches (Parted Before node lists count shared tops inner)) (Reaches (Whole Before node lists plain)) count
        (parts-reach count node lists shared plain tops inner whole stand below Before before-inside) p q from to in (
          (λ (reaches : Reaches (IsEdge parted) p q).
              reach-back direction (Whole Before node lists plain) (IsEdge wholly) edge-whole p q
              (alike.0 (reach-along direction (IsEdge parted) (Parted Before node lists count shared tops inner) part-edge p q reaches))),
          (λ (reaches : Reaches (IsEdge wholly) p q).
              reach-back direction (Parted Before node lists count shared tops inner) (IsEdge parted) edge-part p q
              (alike.1 (reach-along direction (IsEdge wholly) (Whole Before node lists plain) whole-edge p q reaches))),
        )

    ends-within : (p q : ℕ) → Along direction (Parted Before node lists count shared tops inner) p q → IsWithin (count + shared) (edge p q)
    ends-within p q = elim direction as (λ d. Along d (Parted Before node lists count shared tops inner) p q → IsWithin (count + shared) (edge p q)) [
      | ToNames ↦ λ at. (let both = parts-within count node lists shared plain tops inner whole stand below Before before-inside p q at in record { from = both.0; to = both.1 })
      | FromNames ↦ λ at. (let both = parts-within count node lists shared plain tops inner whole stand below Before before-inside q p at in record { from = both.1; to = both.0 })
    ]

    -- the edges of parts lead over the nodes of shared lists
    pub lead-over : (next : ℕ) → next ≡ count + shared → LeadOver count wholly next parted
    lead-over next is = record {
      more = omega (arith, is);
      within = All-from_get_or (IsWithin next) parted (edge 0 0)
          (λ i low. subst (λ (n : ℕ). IsWithin n (get_or parted i (edge 0 0))) (sym is)
          (ends-within (get_or parted i (edge 0 0)).from (get_or parted i (edge 0 0)).to
          (part-edge (get_or parted i (edge 0 0)).from (get_or parted i (edge 0 0)).to (Contains-get_or parted i (edge 0 0) low))));
      same = same;
    }

-- ---- more edges

module _ (R S T : ℕ → ℕ → Type 0) (count : ℕ) (leads : (p q : ℕ) → p < count → q < count → Reaches R p q → Reaches S p q) (inside : (p q : ℕ) → T p q → (p < count) × (q < count)) where
  carried : (steps start at end : ℕ) → start < count → end < count → Reaches R start at → Chain (λ a b. R a b ⊎ T a b) steps at end → Reaches (λ a b. S a b ⊎ T a b) start end
  carried zero start at end from to before chain =
      reaches-map S (λ a b. S a b ⊎ T a b) (λ a b one. inl one) start end (leads start end from to (subst (λ (k : ℕ). Reaches R start k) chain before))
  carried (suc steps) start at end from to before (middle, inl one, chain) =
      carried steps start middle end from to (Reaches-join R start at middle before (1, (middle, one, refl))) chain
  carried (suc steps) start at end from to before (middle, inr other, chain) =
      let both = inside at middle other in
      Reaches-join (λ a b. S a b ⊎ T a b) start at end
      (reaches-map S (λ a b. S a b ⊎ T a b) (λ a b one. inl one) start at (leads start at from both.0 before))
      (reaches-step (λ a b. S a b ⊎ T a b) at middle end (inr other) (carried steps middle middle end both.1 to (0, refl) chain))

edge-either : (one more : List Edge) (p q : ℕ) → IsEdge (one ++ more) p q → IsEdge one p q ⊎ IsEdge more p q
edge-either one more p q at = Contains-append_cases one more (edge p q) at

either-edge : (one more : List Edge) (p q : ℕ) → IsEdge one p q ⊎ IsEdge more p q → IsEdge (one ++ more) p q
either-edge one more p q (inl first) = Contains-append_left one more (edge p q) first
either-edge one more p q (inr last) = Contains-append_right one more (edge p q) last

reached-more : (count : ℕ) (one other more : List Edge) → All (IsWithin count) more → ((p q : ℕ) → p < count → q < count → Reaches (IsEdge one) p q → Reaches (IsEdge other) p q)
    → (p q : ℕ) → p < count → q < count → Reaches (IsEdge (one ++ more)) p q → Reaches (IsEdge (other ++ more)) p q
reached-more count one other more inside leads p q from to reaches =
    let split = reaches-map (IsEdge (one ++ more)) (λ a b. IsEdge one a b ⊎ IsEdge more a b) (edge-either one more) p q reaches in
    reaches-map (λ a b. IsEdge other a b ⊎ IsEdge more a b) (IsEdge (other ++ more)) (either-edge other more) p q
    (carried (IsEdge one) (IsEdge other) (IsEdge more) count leads
    (λ a b at. let both = All-contains (IsWithin count) more (edge a b) inside at in (both.from, both.to)) split.0 p p q from to (0, refl) split.1)

-- nothing is led over where there is nothing more
pub lead-none : (count : ℕ) (edges : List Edge) → All (IsWithin count) edges → LeadOver count edges count edges
lead-none count edges inside = record {
  more = omega arith;
  within = inside;
  same = λ p q from to. ((λ reaches. reaches), (λ reaches. reaches));
}

-- one after the other
pub lead-on : (count middle next : ℕ) (whole more one two : List Edge) → LeadOver count whole middle one → All (IsWithin count) more → LeadOver middle (one ++ more) next two
    → LeadOver count (whole ++ more) next two
lead-on count middle next whole more one two first inside second =
    let few = first.more in
    let further = second.more in
    record {
      more = omega (arith, few, further);
      within = second.within;
      same = λ p q from to.
          let later = second.same p q (omega (arith, few, from)) (omega (arith, few, to)) in (
            (λ (reaches : Reaches (IsEdge two) p q). reached-more count one whole more inside (λ a b low high. (first.same a b low high).0) p q from to (later.0 reaches)),
            (λ (reaches : Reaches (IsEdge (whole ++ more)) p q). later.1 (reached-more count whole one more inside (λ a b low high. (first.same a b low high).1) p q from to reaches)),
          );
    }
