-- The graph in which members are found: what its edges are, and that a chain in it leads from a group to an
-- object exactly where the object is a member.
use Rattle.std.proofs.Common.{◌≡◌, ℕ, zero, suc, ◌+◌, ◌<◌, ◌≤◌, true, List, [], ◌∷◌, ◌++◌, length, map, get_or, Some, refl, sym, subst, ◌∙◌, ◌⊎◌, inl, inr, ⊎_elim, arith}
use Rattle.std.specs.Prelude.{All, Contains}
use Rattle.std.specs.List.{flat_map, range_with_len}
use Rattle.std.proofs.lemmas.Bool.{cases_lt, false≢true}
use Rattle.std.proofs.lemmas.List.{get_or_past}
use Rattle.std.proofs.lemmas.List.Elements.{All-from_get_or, Contains-append_left, Contains-append_right, Contains-append_cases, Contains-get_or}
use Rattle.graph.specs.declared.edges.Edge.{Edge}
use Rattle.graph.specs.claims.Chains.{Chain, Reaches}
use Rattle.graph.specs.claims.Edges.{Leads}
use Rattle.graph.specs.Edges.{IsWithin}
use Rattle.object_groups.specs.declared.lists.Direction.TheVariants.{FromNames, ToNames}
use Rattle.object_groups.specs.ListEdges.{edge, IsEdge, named, nodes_of}
use Rattle.object_groups.specs.claims.Members.{Grouping, Holds, Includes, IsMember}
use Rattle.object_groups.specs.claims.Names.{is_all, Lists, numbers_of}
use Rattle.object_groups.specs.Nodes.{all_groups, all_objects, edges_in, end_edges, group_ends, group_node, IsGraphOf, LeadsToMembers, member_edges, node_count, of_all_groups, own_edges, subgroup_edges}
use Rattle.object_groups.specs.ObjectLaws.{listed-within, numbers-within}
use Rattle.object_groups.specs.NodeLaws.{edge-from, edge-to, from-node, FromNode, to-node}
use Rattle.object_groups.specs.ReachLaws.{list-edge, of-list}
use Rattle.lemmas.proofs.Elements.{Contains-cases, Contains-flat_map, Contains-from_flat_map, Contains-from_map, Contains-from_range, Contains-here, Contains-later, Contains-map, Contains-none, Contains-range}
use Rattle.lemmas.proofs.Chains.{Reaches-join}

-- ---- edges

abbrev FromGroup : Grouping → ℕ → ℕ → Type 0
FromGroup g p to = FromNode g.objects (get_or g.members p []) 0 (all_objects g.objects g.groups) to
    ⊎ (FromNode g.groups (get_or g.subgroups p []) (length g.objects) (all_groups g.objects g.groups) to
    ⊎ (to ≡ of_all_groups g.objects g.groups))

abbrev ToObject : Grouping → ℕ → ℕ → Type 0
ToObject g k from = FromNode g.groups (get_or g.own_groups k []) (length g.objects) (of_all_groups g.objects g.groups) from
    ⊎ (from ≡ all_objects g.objects g.groups)

-- what an edge is
abbrev Link : Grouping → ℕ → ℕ → Type 0
Link g from to = ((p : ℕ) × (p < length g.groups) × (from ≡ group_node g.objects p) × FromGroup g p to)
    ⊎ (((p : ℕ) × (p < length g.groups) × (from ≡ all_groups g.objects g.groups) × (to ≡ group_node g.objects p))
    ⊎ ((k : ℕ) × (k < length g.objects) × (to ≡ k) × ToObject g k from))

-- the nodes that an object's list of groups names, and that a group's lists name
abbrev own_nodes : Grouping → ℕ → List ℕ
own_nodes g k = nodes_of g.groups (get_or g.own_groups k []) (length g.objects) (Some (of_all_groups g.objects g.groups))

abbrev member_nodes : Grouping → ℕ → List ℕ
member_nodes g p = nodes_of g.objects (get_or g.members p []) 0 (Some (all_objects g.objects g.groups))

abbrev subgroup_nodes : Grouping → ℕ → List ℕ
subgroup_nodes g p = nodes_of g.groups (get_or g.subgroups p []) (length g.objects) (Some (all_groups g.objects g.groups))

-- the edges from the node of all objects
abbrev object_ends : Grouping → List Edge
object_ends g = map (edge (all_objects g.objects g.groups)) (range_with_len 0 (length g.objects))

abbrev all_group_ends : Grouping → List Edge
all_group_ends g = flat_map (group_ends g.objects g.groups) (range_with_len 0 (length g.groups))

link_ends : (g : Grouping) (from to : ℕ) → IsEdge (end_edges g.objects g.groups) from to → Link g from to
link_ends g from to at = ⊎_elim
    (λ (group : IsEdge (all_group_ends g) from to).
    let on = Contains-from_flat_map (group_ends g.objects g.groups) (range_with_len 0 (length g.groups)) (edge from to) group in
    by_group on.0 (Contains-from_range (length g.groups) on.0 on.1) on.2)
    (λ (object : IsEdge (object_ends g) from to).
    let on = Contains-from_map (edge (all_objects g.objects g.groups)) (range_with_len 0 (length g.objects)) (edge from to) object in
    inr (inr (on.0, Contains-from_range (length g.objects) on.0 on.1, edge-to (all_objects g.objects g.groups) on.0 from to on.2, inr (edge-from (all_objects g.objects g.groups) on.0 from to on.2))))
    (Contains-append_cases (all_group_ends g) (object_ends g) (edge from to) at)
  where
    by_group : (p : ℕ) → p < length g.groups → Contains (group_ends g.objects g.groups p) (edge from to) → Link g from to
    by_group p low end =
        let here = group_node g.objects p in
        let last = edge here (of_all_groups g.objects g.groups) in
        let back = edge (all_groups g.objects g.groups) here in
        ⊎_elim
        (λ (is : last ≡ edge from to). inl (p, low, edge-from here (of_all_groups g.objects g.groups) from to is, inr (inr (edge-to here (of_all_groups g.objects g.groups) from to is))))
        (λ (other : Contains (back ∷ []) (edge from to)). ⊎_elim
        (λ (is : back ≡ edge from to). inr (inl (p, low, edge-from (all_groups g.objects g.groups) here from to is, edge-to (all_groups g.objects g.groups) here from to is)))
        (λ (none : Contains [] (edge from to)). absurd (Contains-none (edge from to) none))
        (Contains-cases back (edge from to) [] other))
        (Contains-cases last (edge from to) (back ∷ []) end)

link_own : (g : Grouping) (from to : ℕ) → IsEdge (own_edges g) from to → Link g from to
link_own g from to at =
    let on = list-edge FromNames 0 (length g.objects) (own_nodes g) from to at in
    let is = on.2 in
    inr (inr (on.0, on.1, omega (arith, is), inl (from-node g.groups (get_or g.own_groups on.0 []) (length g.objects) (of_all_groups g.objects g.groups) from on.3)))

link_member : (g : Grouping) (from to : ℕ) → IsEdge (member_edges g) from to → Link g from to
link_member g from to at =
    let on = list-edge ToNames (length g.objects) (length g.groups) (member_nodes g) from to at in
    inl (on.0, on.1, on.2, inl (from-node g.objects (get_or g.members on.0 []) 0 (all_objects g.objects g.groups) to on.3))

link_subgroup : (g : Grouping) (from to : ℕ) → IsEdge (subgroup_edges g) from to → Link g from to
link_subgroup g from to at =
    let on = list-edge ToNames (length g.objects) (length g.groups) (subgroup_nodes g) from to at in
    inl (on.0, on.1, on.2, inr (inl (from-node g.groups (get_or g.subgroups on.0 []) (length g.objects) (all_groups g.objects g.groups) to on.3)))

link : (g : Grouping) (from to : ℕ) → IsEdge (edges_in g) from to → Link g from to
unfolding edges_in
link g from to at = ⊎_elim
    (λ (three : IsEdge (end_edges g.objects g.groups ++ own_edges g ++ member_edges g) from to). ⊎_elim
    (λ (two : IsEdge (end_edges g.objects g.groups ++ own_edges g) from to). ⊎_elim
    (λ (one : IsEdge (end_edges g.objects g.groups) from to). link_ends g from to one)
    (λ (own : IsEdge (own_edges g) from to). link_own g from to own)
    (Contains-append_cases (end_edges g.objects g.groups) (own_edges g) (edge from to) two))
    (λ (member : IsEdge (member_edges g) from to). link_member g from to member)
    (Contains-append_cases (end_edges g.objects g.groups ++ own_edges g) (member_edges g) (edge from to) three))
    (λ (subgroup : IsEdge (subgroup_edges g) from to). link_subgroup g from to subgroup)
    (Contains-append_cases (end_edges g.objects g.groups ++ own_edges g ++ member_edges g) (subgroup_edges g) (edge from to) at)

of_ends : (g : Grouping) (e : Edge) → Contains (end_edges g.objects g.groups) e → Contains (edges_in g) e
unfolding edges_in
of_ends g e at = Contains-append_left (end_edges g.objects g.groups ++ own_edges g ++ member_edges g) (subgroup_edges g) e
    (Contains-append_left (end_edges g.objects g.groups ++ own_edges g) (member_edges g) e (Contains-append_left (end_edges g.objects g.groups) (own_edges g) e at))

of_own : (g : Grouping) (e : Edge) → Contains (own_edges g) e → Contains (edges_in g) e
unfolding edges_in
of_own g e at = Contains-append_left (end_edges g.objects g.groups ++ own_edges g ++ member_edges g) (subgroup_edges g) e
    (Contains-append_left (end_edges g.objects g.groups ++ own_edges g) (member_edges g) e (Contains-append_right (end_edges g.objects g.groups) (own_edges g) e at))

of_members : (g : Grouping) (e : Edge) → Contains (member_edges g) e → Contains (edges_in g) e
unfolding edges_in
of_members g e at = Contains-append_left (end_edges g.objects g.groups ++ own_edges g ++ member_edges g) (subgroup_edges g) e
    (Contains-append_right (end_edges g.objects g.groups ++ own_edges g) (member_edges g) e at)

of_subgroups : (g : Grouping) (e : Edge) → Contains (subgroup_edges g) e → Contains (edges_in g) e
unfolding edges_in
of_subgroups g e at = Contains-append_right (end_edges g.objects g.groups ++ own_edges g ++ member_edges g) (subgroup_edges g) e at

-- ---- every end is a node

node-within : (g : Grouping) (names entries : List (List ℕ)) (first all node : ℕ) → all < node_count g.objects g.groups → first + length names < node_count g.objects g.groups
    → FromNode names entries first all node → node < node_count g.objects g.groups
node-within g names entries first all node low few (inl every) = omega (arith, low, every.0)
node-within g names entries first all node low few (inr named) = omega (arith, few, named.1, named.2)

edge-within : (g : Grouping) (e : Edge) → Contains (edges_in g) e → IsWithin (node_count g.objects g.groups) e
edge-within g e at = by_link (link g e.from e.to at)
  where
    by_link : Link g e.from e.to → IsWithin (node_count g.objects g.groups) e
    by_link (inl (p, low, is, inl members)) = record { from = omega (arith, low, is); to = node-within g _ _ _ _ e.to (omega arith) (omega arith) members }
    by_link (inl (p, low, is, inr (inl subgroups))) = record { from = omega (arith, low, is); to = node-within g _ _ _ _ e.to (omega arith) (omega arith) subgroups }
    by_link (inl (p, low, is, inr (inr last))) = record { from = omega (arith, low, is); to = omega (arith, last) }
    by_link (inr (inl (p, low, is, to))) = record { from = omega (arith, is); to = omega (arith, low, to) }
    by_link (inr (inr (k, low, is, inl own))) = record { from = node-within g _ _ _ _ e.from (omega arith) (omega arith) own; to = omega (arith, low, is) }
    by_link (inr (inr (k, low, is, inr all))) = record { from = omega (arith, all); to = omega (arith, low, is) }

all-within : (g : Grouping) (edges : List Edge) → ((e : Edge) → Contains edges e → Contains (edges_in g) e) → All (IsWithin (node_count g.objects g.groups)) edges
all-within g edges among = All-from_get_or (IsWithin (node_count g.objects g.groups)) edges (edge 0 0)
    (λ i low. edge-within g (get_or edges i (edge 0 0)) (among (get_or edges i (edge 0 0)) (Contains-get_or edges i (edge 0 0) low)))

pub ends-within : (g : Grouping) → All (IsWithin (node_count g.objects g.groups)) (end_edges g.objects g.groups)
ends-within g = all-within g (end_edges g.objects g.groups) (of_ends g)

pub own-edges-within : (g : Grouping) → All (IsWithin (node_count g.objects g.groups)) (own_edges g)
own-edges-within g = all-within g (own_edges g) (of_own g)

pub members-within : (g : Grouping) → All (IsWithin (node_count g.objects g.groups)) (member_edges g)
members-within g = all-within g (member_edges g) (of_members g)

pub subgroups-within : (g : Grouping) → All (IsWithin (node_count g.objects g.groups)) (subgroup_edges g)
subgroups-within g = all-within g (subgroup_edges g) (of_subgroups g)

-- ---- from chains to members

module _ (g : Grouping) (object : ℕ) (there : object < length g.objects) where
  -- what it means that a node leads to the object
  record Means (node : ℕ) : Type 0 where
    pub at_object : node < length g.objects → node ≡ object
    pub at_group : (p : ℕ) → p < length g.groups → node ≡ group_node g.objects p → IsMember g p object
    pub at_all_groups : node ≡ all_groups g.objects g.groups → (p : ℕ) × (p < length g.groups) × IsMember g p object
    pub at_of_all : node ≡ of_all_groups g.objects g.groups → is_all (get_or g.own_groups object []) ≡ true

  means_itself : Means object
  means_itself = record {
    at_object = λ low. refl;
    at_group = λ p low is. absurd (omega (arith, there, is));
    at_all_groups = λ is. absurd (omega (arith, there, is));
    at_of_all = λ is. absurd (omega (arith, there, is));
  }

  means_group : (node p : ℕ) → p < length g.groups → node ≡ group_node g.objects p → IsMember g p object → Means node
  means_group node p low is member = record {
    at_object = λ below. absurd (omega (arith, below, is));
    at_group = λ q few same. let alike : p ≡ q = omega (arith, is, same) in subst (λ r. IsMember g r object) alike member;
    at_all_groups = λ same. absurd (omega (arith, low, is, same));
    at_of_all = λ same. absurd (omega (arith, low, is, same));
  }

  means_all_groups : (node p : ℕ) → p < length g.groups → node ≡ all_groups g.objects g.groups → IsMember g p object → Means node
  means_all_groups node p low is member = record {
    at_object = λ below. absurd (omega (arith, below, is));
    at_group = λ q few same. absurd (omega (arith, few, is, same));
    at_all_groups = λ same. (p, low, member);
    at_of_all = λ same. absurd (omega (arith, is, same));
  }

  means_of_all : (node : ℕ) → node ≡ of_all_groups g.objects g.groups → is_all (get_or g.own_groups object []) ≡ true → Means node
  means_of_all node is every = record {
    at_object = λ below. absurd (omega (arith, below, is));
    at_group = λ q few same. absurd (omega (arith, few, is, same));
    at_all_groups = λ same. absurd (omega (arith, is, same));
    at_of_all = λ same. every;
  }

  means_all_objects : (node : ℕ) → node ≡ all_objects g.objects g.groups → Means node
  means_all_objects node is = record {
    at_object = λ below. absurd (omega (arith, below, is));
    at_group = λ q few same. absurd (omega (arith, few, is, same));
    at_all_groups = λ same. absurd (omega (arith, is, same));
    at_of_all = λ same. absurd (omega (arith, is, same));
  }

  member_held : (p : ℕ) → Holds g p object → IsMember g p object
  member_held p holds = (p, (0, refl), holds)

  member_through : (p q : ℕ) → Includes g p q → IsMember g q object → IsMember g p object
  member_through p q includes (last, (steps, chain), holds) = (last, (suc steps, (q, includes, chain)), holds)

  means_step : (from to : ℕ) → Link g from to → Means to → Means from
  means_step from to (inl (p, low, is, inl (inl every))) means = means_group from p low is (member_held p (inl (inl (every.1, there))))
  means_step from to (inl (p, low, is, inl (inr (k, few, at, named)))) means =
      let same : k ≡ object = (let alike : to ≡ object = means.at_object (omega (arith, few, at)) in omega (arith, alike, at)) in
      means_group from p low is (member_held p (inl (inr (subst (λ number. Contains (numbers_of g.objects (get_or g.members p [])) number) same named))))
  means_step from to (inl (p, low, is, inr (inl (inl every)))) means =
      let on = means.at_all_groups every.0 in
      means_group from p low is (member_through p on.0 (inl (every.1, on.1)) on.2)
  means_step from to (inl (p, low, is, inr (inl (inr (q, few, at, named))))) means =
      means_group from p low is (member_through p q (inr named) (means.at_group q few at))
  means_step from to (inl (p, low, is, inr (inr last))) means =
      means_group from p low is (member_held p (inr (inl (means.at_of_all last, low))))
  means_step from to (inr (inl (p, low, is, at))) means = means_all_groups from p low is (means.at_group p low at)
  means_step from to (inr (inr (k, low, is, inl (inl every)))) means =
      let same : k ≡ object = (let alike : to ≡ object = means.at_object (omega (arith, low, is)) in omega (arith, alike, is)) in
      means_of_all from every.0 (subst (λ number. is_all (get_or g.own_groups number []) ≡ true) same every.1)
  means_step from to (inr (inr (k, low, is, inl (inr (q, few, at, named))))) means =
      let same : k ≡ object = (let alike : to ≡ object = means.at_object (omega (arith, low, is)) in omega (arith, alike, is)) in
      means_group from q few at (member_held q (inr (inr (subst (λ number. Contains (numbers_of g.groups (get_or g.own_groups number [])) q) same named))))
  means_step from to (inr (inr (k, low, is, inr all))) means = means_all_objects from all

  means_chain : (steps node : ℕ) → Chain (IsEdge (edges_in g)) steps node object → Means node
  means_chain zero node chain = subst Means (sym chain) means_itself
  means_chain (suc steps) node (middle, leads, chain) = means_step node middle (link g node middle leads) (means_chain steps middle chain)

  pub object-from_reached : (p : ℕ) → p < length g.objects → Reaches (IsEdge (edges_in g)) p object → p ≡ object
  object-from_reached p low reaches = (means_chain reaches.0 p reaches.1).at_object low

  pub some-from_reached : Reaches (IsEdge (edges_in g)) (all_groups g.objects g.groups) object → (p : ℕ) × (p < length g.groups) × IsMember g p object
  some-from_reached reaches = (means_chain reaches.0 (all_groups g.objects g.groups) reaches.1).at_all_groups refl

  pub member-from_reached : (p : ℕ) → p < length g.groups → Reaches (IsEdge (edges_in g)) (group_node g.objects p) object → IsMember g p object
  member-from_reached p low reaches = (means_chain reaches.0 (group_node g.objects p) reaches.1).at_group p low refl

-- ---- from members to chains

module _ (g : Grouping) where
  led : (from to : ℕ) → IsEdge (edges_in g) from to → Reaches (IsEdge (edges_in g)) from to
  led from to at = (1, (to, at, refl))

  from_members : (p to : ℕ) → p < length g.groups → Contains (member_nodes g p) to → Reaches (IsEdge (edges_in g)) (group_node g.objects p) to
  from_members p to low at = led (group_node g.objects p) to (of_members g (edge (group_node g.objects p) to) (of-list ToNames (length g.objects) (length g.groups) (member_nodes g) p to low at))

  from_subgroups : (p to : ℕ) → p < length g.groups → Contains (subgroup_nodes g p) to → Reaches (IsEdge (edges_in g)) (group_node g.objects p) to
  from_subgroups p to low at = led (group_node g.objects p) to (of_subgroups g (edge (group_node g.objects p) to) (of-list ToNames (length g.objects) (length g.groups) (subgroup_nodes g) p to low at))

  of_group_ends : (p : ℕ) (e : Edge) → p < length g.groups → Contains (group_ends g.objects g.groups p) e → Contains (edges_in g) e
  of_group_ends p e low at = of_ends g e (Contains-append_left (all_group_ends g) (object_ends g) e
      (Contains-flat_map (group_ends g.objects g.groups) (range_with_len 0 (length g.groups)) p e (Contains-range (length g.groups) p low) at))

  abbrev last_of : ℕ → List Edge
  last_of p = edge (all_groups g.objects g.groups) (group_node g.objects p) ∷ []

  from_each : (p : ℕ) → p < length g.groups → Reaches (IsEdge (edges_in g)) (group_node g.objects p) (of_all_groups g.objects g.groups)
  from_each p low = led (group_node g.objects p) (of_all_groups g.objects g.groups)
      (of_group_ends p (edge (group_node g.objects p) (of_all_groups g.objects g.groups)) low (Contains-here (edge (group_node g.objects p) (of_all_groups g.objects g.groups)) (last_of p)))

  to_each : (p : ℕ) → p < length g.groups → Reaches (IsEdge (edges_in g)) (all_groups g.objects g.groups) (group_node g.objects p)
  to_each p low = led (all_groups g.objects g.groups) (group_node g.objects p)
      (of_group_ends p (edge (all_groups g.objects g.groups) (group_node g.objects p)) low
      (Contains-later (edge (group_node g.objects p) (of_all_groups g.objects g.groups)) (edge (all_groups g.objects g.groups) (group_node g.objects p)) (last_of p)
      (Contains-here (edge (all_groups g.objects g.groups) (group_node g.objects p)) [])))

  from_own : (k from : ℕ) → k < length g.objects → Contains (own_nodes g k) from → Reaches (IsEdge (edges_in g)) from k
  from_own k from low at =
      let same : 0 + k ≡ k = omega arith in
      subst (λ (to : ℕ). Reaches (IsEdge (edges_in g)) from to) same (led from (0 + k) (of_own g (edge from (0 + k)) (of-list FromNames 0 (length g.objects) (own_nodes g) k from low at)))

  to_each_object : (k : ℕ) → k < length g.objects → Reaches (IsEdge (edges_in g)) (all_objects g.objects g.groups) k
  to_each_object k low = led (all_objects g.objects g.groups) k (of_ends g (edge (all_objects g.objects g.groups) k) (Contains-append_right (all_group_ends g) (object_ends g) (edge (all_objects g.objects g.groups) k)
      (Contains-map (edge (all_objects g.objects g.groups)) (range_with_len 0 (length g.objects)) k (Contains-range (length g.objects) k low))))

  reached_group : (p q : ℕ) → p < length g.groups → Includes g p q → Reaches (IsEdge (edges_in g)) (group_node g.objects p) (group_node g.objects q)
  reached_group p q low includes = ⊎_elim
      (λ (every : Contains (subgroup_nodes g p) (all_groups g.objects g.groups)).
      Reaches-join (IsEdge (edges_in g)) _ (all_groups g.objects g.groups) _ (from_subgroups p _ low every) (to_each q (listed-within g.groups (get_or g.subgroups p []) q includes)))
      (λ (named : Contains (subgroup_nodes g p) (length g.objects + q)).
      from_subgroups p (group_node g.objects q) low named)
      (to-node g.groups (get_or g.subgroups p []) (length g.objects) (all_groups g.objects g.groups) q includes)

  reached_last : (steps p q : ℕ) → p < length g.groups → Chain (Includes g) steps p q → (q < length g.groups) × Reaches (IsEdge (edges_in g)) (group_node g.objects p) (group_node g.objects q)
  reached_last zero p q low chain = (omega (arith, low, chain), subst (λ r. Reaches (IsEdge (edges_in g)) (group_node g.objects p) (group_node g.objects r)) chain (0, refl))
  reached_last (suc steps) p q low (middle, includes, chain) =
      let rest = reached_last steps middle q (listed-within g.groups (get_or g.subgroups p []) middle includes) chain in
      (rest.0, Reaches-join (IsEdge (edges_in g)) _ (group_node g.objects middle) _ (reached_group p middle low includes) rest.1)

  module _ (lists : length g.own_groups ≡ length g.objects) where
    own-within : (k q : ℕ) → Lists g.groups (get_or g.own_groups k []) q → k < length g.objects
    own-within k q listed = ⊎_elim
        (λ (low : k < length g.objects). low)
        (λ (past : length g.objects ≤ k). absurd (none (subst (λ entries. Lists g.groups entries q) (get_or_past g.own_groups k [] (omega (arith, past, lists))) listed)))
        (cases_lt k (length g.objects))
      where
        none : Lists g.groups [] q → ⊥
        none (inl every) = false≢true every.0
        none (inr named) = Contains-none q named

    held-within : (q k : ℕ) → Holds g q k → k < length g.objects
    held-within q k (inl lists) = listed-within g.objects (get_or g.members q []) k lists
    held-within q k (inr own) = own-within k q own

    reached_object : (q k : ℕ) → q < length g.groups → Holds g q k → Reaches (IsEdge (edges_in g)) (group_node g.objects q) k
    reached_object q k low (inl listed) = ⊎_elim
        (λ (every : Contains (member_nodes g q) (all_objects g.objects g.groups)).
        Reaches-join (IsEdge (edges_in g)) _ (all_objects g.objects g.groups) _ (from_members q _ low every) (to_each_object k (listed-within g.objects (get_or g.members q []) k listed)))
        (λ (named : Contains (member_nodes g q) (0 + k)). from_members q k low (let same : 0 + k ≡ k = omega arith in subst (λ (x : ℕ). Contains (member_nodes g q) x) same named))
        (to-node g.objects (get_or g.members q []) 0 (all_objects g.objects g.groups) k listed)
    reached_object q k low (inr own) =
        let there = own-within k q own in
        ⊎_elim
        (λ (every : Contains (own_nodes g k) (of_all_groups g.objects g.groups)).
        Reaches-join (IsEdge (edges_in g)) _ (of_all_groups g.objects g.groups) _ (from_each q low) (from_own k _ there every))
        (λ (named : Contains (own_nodes g k) (length g.objects + q)). from_own k (group_node g.objects q) there named)
        (to-node g.groups (get_or g.own_groups k []) (length g.objects) (of_all_groups g.objects g.groups) q own)

    pub reached-from_member : (p k : ℕ) → p < length g.groups → IsMember g p k → (k < length g.objects) × Reaches (IsEdge (edges_in g)) (group_node g.objects p) k
    reached-from_member p k low (last, (steps, chain), holds) =
        let on = reached_last steps p last low chain in
        (held-within last k holds, Reaches-join (IsEdge (edges_in g)) _ (group_node g.objects last) _ on.1 (reached_object last k on.0 holds))

    -- the same in the graph as it is kept
    pub leads-to_members : (graph : List (List ℕ)) → IsGraphOf g graph → LeadsToMembers g graph
    leads-to_members graph has = record {
      count = has.count;
      objects = λ p object low there reaches. object-from_reached g object there p low ((has.same p object (omega (arith, low)) (omega (arith, there))).0 reaches);
      groups = λ p object low there. (
        (λ (reaches : Reaches (Leads graph) (group_node g.objects p) object).
            member-from_reached g object there p low ((has.same (group_node g.objects p) object (omega (arith, low)) (omega (arith, there))).0 reaches)),
        (λ (member : IsMember g p object). (has.same (group_node g.objects p) object (omega (arith, low)) (omega (arith, there))).1 (reached-from_member p object low member).1),
      );
      every = λ object there. (has.same (all_objects g.objects g.groups) object (omega arith) (omega (arith, there))).1 (to_each_object object there);
      some = λ object there. (
        (λ (reaches : Reaches (Leads graph) (all_groups g.objects g.groups) object).
            some-from_reached g object there ((has.same (all_groups g.objects g.groups) object (omega arith) (omega (arith, there))).0 reaches)),
        (λ (one : (p : ℕ) × (p < length g.groups) × IsMember g p object). (has.same (all_groups g.objects g.groups) object (omega arith) (omega (arith, there))).1
            (Reaches-join (IsEdge (edges_in g)) (all_groups g.objects g.groups) (group_node g.objects one.0) object (to_each one.0 one.1) (reached-from_member one.0 object one.1 one.2).1)),
      );
    }
