-- The edges are exactly the links, and lead between nodes.
use Rattle.std.proofs.Common.{◌≡◌, ℕ, ◌+◌, ◌∙◌, ◌<◌, List, [], ◌∷◌, ◌++◌, length, map, take, get_or, refl, sym, ap, subst, inl, inr, ⊎_elim, arith}
use Rattle.std.specs.Prelude.{All, Contains, ◌↔◌}
use Rattle.std.proofs.lemmas.List.{append_assoc, map_more}
use Rattle.std.proofs.lemmas.List.Elements.{All-from_get_or, All-contains, Contains-append_cases, Contains-append_left, Contains-append_right, Contains-get_or}
use Rattle.lemmas.proofs.Elements.{Contains-from_map, Contains-map}
use Rattle.graph.specs.declared.edges.Edge.{Edge}
use Rattle.graph.specs.Edges.{IsWithin}
use Rattle.graph_rules.specs.declared.rules.Rules.{Rules}
use Rattle.graph_rules.specs.Loops.{down, edges_in, IsLink, up}
use Rattle.graph_rules.specs.Rules.{edge, AreWithin, IsOfRule}

module _ (r : Rules) where
  abbrev to_masters : List Edge
  to_masters = map (λ one. edge one.from (down r one.to)) r.masters.items

  abbrev down_members : List Edge
  down_members = map (λ one. edge (down r one.from) (down r one.to)) r.members.items

  abbrev turns : List Edge
  turns = map (λ own. edge (down r own) (up r own)) r.objects.items

  abbrev up_members : List Edge
  up_members = map (λ one. edge (up r one.to) (up r one.from)) r.members.items

  abbrev to_rules : List Edge
  to_rules = map (λ one. edge (up r one.to) one.from) r.dependents.items

  moved : (es : List Edge) (a b x y : ℕ) → Contains es (edge a b) → x ≡ a → y ≡ b → Contains es (edge x y)
  moved es a b x y at from to = subst (λ n. Contains es (edge n y)) (sym from) (subst (λ n. Contains es (edge a n)) (sym to) at)

  module _ (x y : ℕ) where
    from_masters : Contains to_masters (edge x y) → IsLink r x y
    from_masters at =
        let on = Contains-from_map (λ one. edge one.from (down r one.to)) r.masters.items (edge x y) at in
        let from : on.0.from ≡ x = ap (λ (e : Edge). e.from) on.2 in
        let to : down r on.0.to ≡ y = ap (λ (e : Edge). e.to) on.2 in
        inl (on.0.to, subst (λ n. Contains r.masters.items (edge n on.0.to)) from on.1, sym to)

    from_down : Contains down_members (edge x y) → IsLink r x y
    from_down at =
        let on = Contains-from_map (λ one. edge (down r one.from) (down r one.to)) r.members.items (edge x y) at in
        let from : down r on.0.from ≡ x = ap (λ (e : Edge). e.from) on.2 in
        let to : down r on.0.to ≡ y = ap (λ (e : Edge). e.to) on.2 in
        inr (inl (on.0.from, on.0.to, on.1, sym from, sym to))

    from_turns : Contains turns (edge x y) → IsLink r x y
    from_turns at =
        let on = Contains-from_map (λ own. edge (down r own) (up r own)) r.objects.items (edge x y) at in
        let from : down r on.0 ≡ x = ap (λ (e : Edge). e.from) on.2 in
        let to : up r on.0 ≡ y = ap (λ (e : Edge). e.to) on.2 in
        inr (inr (inl (on.0, on.1, sym from, sym to)))

    from_up : Contains up_members (edge x y) → IsLink r x y
    from_up at =
        let on = Contains-from_map (λ one. edge (up r one.to) (up r one.from)) r.members.items (edge x y) at in
        let from : up r on.0.to ≡ x = ap (λ (e : Edge). e.from) on.2 in
        let to : up r on.0.from ≡ y = ap (λ (e : Edge). e.to) on.2 in
        inr (inr (inr (inl (on.0.from, on.0.to, on.1, sym from, sym to))))

    from_rules : Contains to_rules (edge x y) → IsLink r x y
    from_rules at =
        let on = Contains-from_map (λ one. edge (up r one.to) one.from) r.dependents.items (edge x y) at in
        let from : up r on.0.to ≡ x = ap (λ (e : Edge). e.from) on.2 in
        let to : on.0.from ≡ y = ap (λ (e : Edge). e.to) on.2 in
        inr (inr (inr (inr (on.0.to, subst (λ n. Contains r.dependents.items (edge n on.0.to)) to on.1, sym from))))

    from_edges : Contains (edges_in r) (edge x y) → IsLink r x y
    from_edges at = ⊎_elim
        (λ (at : Contains (((to_masters ++ down_members) ++ turns) ++ up_members) (edge x y)). ⊎_elim
        (λ (at : Contains ((to_masters ++ down_members) ++ turns) (edge x y)). ⊎_elim
        (λ (at : Contains (to_masters ++ down_members) (edge x y)). ⊎_elim from_masters from_down (Contains-append_cases to_masters down_members (edge x y) at))
        from_turns (Contains-append_cases (to_masters ++ down_members) turns (edge x y) at))
        from_up (Contains-append_cases ((to_masters ++ down_members) ++ turns) up_members (edge x y) at))
        from_rules (Contains-append_cases (((to_masters ++ down_members) ++ turns) ++ up_members) to_rules (edge x y) at)

    -- what stands in one part stands in all
    of_up : Contains (((to_masters ++ down_members) ++ turns) ++ up_members) (edge x y) → Contains (edges_in r) (edge x y)
    of_up at = Contains-append_left (((to_masters ++ down_members) ++ turns) ++ up_members) to_rules (edge x y) at

    of_turns : Contains ((to_masters ++ down_members) ++ turns) (edge x y) → Contains (edges_in r) (edge x y)
    of_turns at = of_up (Contains-append_left ((to_masters ++ down_members) ++ turns) up_members (edge x y) at)

    of_down : Contains (to_masters ++ down_members) (edge x y) → Contains (edges_in r) (edge x y)
    of_down at = of_turns (Contains-append_left (to_masters ++ down_members) turns (edge x y) at)

    to_edges : IsLink r x y → Contains (edges_in r) (edge x y)
    to_edges (inl (node, at, to)) =
        of_down (Contains-append_left to_masters down_members (edge x y)
        (moved to_masters x (down r node) x y (Contains-map (λ one. edge one.from (down r one.to)) r.masters.items (edge x node) at) refl to))
    to_edges (inr (inl (p, q, at, from, to))) =
        of_down (Contains-append_right to_masters down_members (edge x y)
        (moved down_members (down r p) (down r q) x y (Contains-map (λ one. edge (down r one.from) (down r one.to)) r.members.items (edge p q) at) from to))
    to_edges (inr (inr (inl (own, at, from, to)))) =
        of_turns (Contains-append_right (to_masters ++ down_members) turns (edge x y)
        (moved turns (down r own) (up r own) x y (Contains-map (λ n. edge (down r n) (up r n)) r.objects.items own at) from to))
    to_edges (inr (inr (inr (inl (p, q, at, from, to))))) =
        of_up (Contains-append_right ((to_masters ++ down_members) ++ turns) up_members (edge x y)
        (moved up_members (up r q) (up r p) x y (Contains-map (λ one. edge (up r one.to) (up r one.from)) r.members.items (edge p q) at) from to))
    to_edges (inr (inr (inr (inr (node, at, from))))) =
        Contains-append_right (((to_masters ++ down_members) ++ turns) ++ up_members) to_rules (edge x y)
        (moved to_rules (up r node) y x y (Contains-map (λ one. edge (up r one.to) one.from) r.dependents.items (edge y node) at) from refl)

  pub links : (x y : ℕ) → Contains (edges_in r) (edge x y) ↔ IsLink r x y
  links x y = (from_edges x y, to_edges x y)

  -- both ends are nodes
  link-within : (within : AreWithin r) (nodes : ℕ) → nodes ≡ r.count + r.nodes + r.nodes → (x y : ℕ) → IsLink r x y → IsWithin nodes (edge x y)
  link-within within nodes is x y (inl (node, at, to)) =
      let low = All-contains (IsOfRule r.count r.nodes) r.masters.items (edge x node) within.masters at in
      record { from = (let rule = low.rule in omega (arith, is, rule)); to = (let few = low.node in omega (arith, is, few, to)) }
  link-within within nodes is x y (inr (inl (p, q, at, from, to))) =
      let low = All-contains (IsWithin r.nodes) r.members.items (edge p q) within.members at in
      let one = low.from in
      let other = low.to in
      record { from = omega (arith, is, one, from); to = omega (arith, is, other, to) }
  link-within within nodes is x y (inr (inr (inl (own, at, from, to)))) =
      let low = All-contains (λ node. node < r.nodes) r.objects.items own within.objects at in
      record { from = omega (arith, is, low, from); to = omega (arith, is, low, to) }
  link-within within nodes is x y (inr (inr (inr (inl (p, q, at, from, to))))) =
      let low = All-contains (IsWithin r.nodes) r.members.items (edge p q) within.members at in
      let one = low.from in
      let other = low.to in
      record { from = omega (arith, is, other, from); to = omega (arith, is, one, to) }
  link-within within nodes is x y (inr (inr (inr (inr (node, at, from))))) =
      let low = All-contains (IsOfRule r.count r.nodes) r.dependents.items (edge y node) within.dependents at in
      let rule = low.rule in
      let few = low.node in
      record { from = omega (arith, is, few, from); to = omega (arith, is, rule) }

  pub all-within : AreWithin r → (nodes : ℕ) → nodes ≡ r.count + r.nodes + r.nodes → All (IsWithin nodes) (edges_in r)
  all-within within nodes is = All-from_get_or (IsWithin nodes) (edges_in r) (edge 0 0)
      (λ i low. let one = get_or (edges_in r) i (edge 0 0) in link-within within nodes is one.from one.to (from_edges one.from one.to (Contains-get_or (edges_in r) i (edge 0 0) low)))

-- ---- how they are made, part by part

-- one edge more
pub pushed-more : {X : Type 0} (f : X → Edge) (xs : List X) (i : ℕ) (d : X) (old now new : List Edge) → i < length xs → now ≡ old ++ map f (take i xs)
    → new ≡ now ++ f (get_or xs i d) ∷ [] → new ≡ old ++ map f (take (i + 1) xs)
pushed-more f xs i d old now new low before pushed =
    pushed ∙ ap (λ es. es ++ f (get_or xs i d) ∷ []) before ∙ append_assoc old (map f (take i xs)) (f (get_or xs i d) ∷ []) ∙ ap (λ es. old ++ es) (sym (map_more f xs i d low))

module _ (r : Rules) (masters members again dependents : List Edge) (objects : List ℕ) (masters_are : masters ≡ r.masters.items) (members_are : members ≡ r.members.items)
    (objects_are : objects ≡ r.objects.items) (again_are : again ≡ r.members.items) (dependents_are : dependents ≡ r.dependents.items) where
  pub edges-made : (first_up : ℕ) → first_up ≡ r.count + r.nodes → (none one two three four all : List Edge) → none ≡ []
      → one ≡ none ++ map (λ e. edge (0 + e.from) (down r e.to)) masters
      → two ≡ one ++ map (λ e. edge (down r e.from) (down r e.to)) members
      → three ≡ two ++ map (λ own. edge (down r own) (first_up + own)) objects
      → four ≡ three ++ map (λ e. edge (first_up + e.to) (first_up + e.from)) again
      → all ≡ four ++ map (λ e. edge (first_up + e.to) (0 + e.from)) dependents
      → all ≡ edges_in r
  edges-made first_up up_is none one two three four all empty first second third fourth fifth = all_are
    where
      plain : (n : ℕ) → 0 + n ≡ n
      plain n = omega arith

      one_is : one ≡ to_masters r
      one_is = first ∙ λ i. empty i ++ map (λ e. edge (plain e.from i) (down r e.to)) (masters_are i)

      two_is : two ≡ to_masters r ++ down_members r
      two_is = second ∙ λ i. one_is i ++ map (λ e. edge (down r e.from) (down r e.to)) (members_are i)

      three_is : three ≡ (to_masters r ++ down_members r) ++ turns r
      three_is = third ∙ λ i. two_is i ++ map (λ own. edge (down r own) (up_is i + own)) (objects_are i)

      four_is : four ≡ ((to_masters r ++ down_members r) ++ turns r) ++ up_members r
      four_is = fourth ∙ λ i. three_is i ++ map (λ e. edge (up_is i + e.to) (up_is i + e.from)) (again_are i)

      all_are : all ≡ edges_in r
      all_are = fifth ∙ λ i. four_is i ++ map (λ e. edge (up_is i + e.to) (plain e.from i)) (dependents_are i)
