-- The graph in which members are found: what its edges are, and that a chain in it leads from a group to a service
-- exactly where the service is a member.
use Rattle.std.proofs.Common.{◌≡◌, ℕ, zero, suc, ◌+◌, ◌<◌, ◌≤◌, List, [], ◌++◌, length, map, get_or, Some, refl, sym, subst, ◌⊎◌, inl, inr, ⊎_elim, arith}
use Rattle.std.specs.Prelude.{All, Contains, slice_get}
use Rattle.std.specs.List.{range_with_len}
use Rattle.std.proofs.lemmas.List.{get_or_past}
use Rattle.std.proofs.lemmas.Option.{get_or_from_slice_get, slice_get-get_or}
use Rattle.std.proofs.lemmas.List.Elements.{All-from_get_or, Contains-append_left, Contains-append_right, Contains-append_cases, Contains-get_or}
use Rattle.graph.specs.declared.edges.Edge.{Edge}
use Rattle.graph.specs.claims.Chains.{Chain, Reaches}
use Rattle.graph.specs.Edges.{IsWithin}
use Rattle.graph.specs.Reach.{IsReached}
use Rattle.lemmas.proofs.Elements.{Contains-from_map, Contains-from_range, Contains-map, Contains-none, Contains-range}
use Rattle.lemmas.proofs.Chains.{Reaches-join}
use Rattle.object_groups.specs.declared.lists.Direction.TheVariants.{FromNames, ToNames}
use Rattle.object_groups.specs.ListEdges.{edge, IsEdge}
use Rattle.object_groups.specs.NodeLaws.{edge-from, edge-to}
use Rattle.object_groups.specs.ReachLaws.{list-edge, of-list}
use Rattle.object_listing.specs.claims.Listing.{AreThose}
use Rattle.object_service_groups.specs.claims.Members.{Grouping, Holds, Includes, IsMember}
use Rattle.object_service_groups.specs.Nodes.{AreBelow, edges_in, first_group, group_nodes, IsGraphOf, named_edges, node_count, own_edges, owner_edges, subgroup_edges}
use Rattle.object_service_groups.proofs.ElementLemmas.{place-there}

-- each number is that of something
pub record IsWell (g : Grouping) : Type 0 where
  pub long : length g.subgroups ≡ length g.named
  pub named : (p s : ℕ) → Contains (get_or g.named p []) s → s < length g.owners
  pub subgroups : (p q : ℕ) → Contains (get_or g.subgroups p []) q → q < length g.named
  pub own_groups : (b p : ℕ) → Contains (get_or g.own_groups b []) p → p < length g.named
  pub owners : (s : ℕ) → s < length g.owners → get_or g.owners s 0 < length g.own_groups

abbrev pub block_node : Grouping → ℕ → ℕ
block_node g block = length g.owners + block

abbrev pub group_node : Grouping → ℕ → ℕ
group_node g group = first_group g + group

-- ---- edges

abbrev FromGroup : Grouping → ℕ → ℕ → Type 0
FromGroup g p to = Contains (get_or g.named p []) to ⊎ ((q : ℕ) × (to ≡ group_node g q) × Contains (get_or g.subgroups p []) q)

-- what an edge is
abbrev Link : Grouping → ℕ → ℕ → Type 0
Link g from to = ((p : ℕ) × (p < length g.named) × (from ≡ group_node g p) × FromGroup g p to)
    ⊎ (((b : ℕ) × (b < length g.own_groups) × (to ≡ block_node g b) × ((p : ℕ) × (from ≡ group_node g p) × Contains (get_or g.own_groups b []) p))
    ⊎ ((s : ℕ) × (s < length g.owners) × (to ≡ s) × (from ≡ block_node g (get_or g.owners s 0))))

from_mapped : (first : ℕ) (numbers : List ℕ) (node : ℕ) → Contains (map (λ number. first + number) numbers) node → (k : ℕ) × (node ≡ first + k) × Contains numbers k
from_mapped first numbers node at = let on = Contains-from_map (λ number. first + number) numbers node at in (on.0, sym on.2, on.1)

-- the nodes that a block's list, and a group's lists, name
abbrev own_at : Grouping → ℕ → List ℕ
own_at g b = group_nodes g (get_or g.own_groups b [])

abbrev subgroups_at : Grouping → ℕ → List ℕ
subgroups_at g p = group_nodes g (get_or g.subgroups p [])

abbrev named_at : Grouping → ℕ → List ℕ
named_at g p = get_or g.named p []

abbrev of_owners : Grouping → List Edge
of_owners g = owner_edges (length g.owners) g.owners

link_owner : (g : Grouping) (from to : ℕ) → IsEdge (of_owners g) from to → Link g from to
link_owner g from to at =
    let on = Contains-from_map (λ service. edge (block_node g (get_or g.owners service 0)) service) (range_with_len 0 (length g.owners)) (edge from to) at in
    inr (inr (
      on.0,
      Contains-from_range (length g.owners) on.0 on.1,
      edge-to (block_node g (get_or g.owners on.0 0)) on.0 from to on.2,
      edge-from (block_node g (get_or g.owners on.0 0)) on.0 from to on.2,
    ))

link_own : (g : Grouping) (from to : ℕ) → IsEdge (own_edges g) from to → Link g from to
link_own g from to at =
    let on = list-edge FromNames (length g.owners) (length g.own_groups) (own_at g) from to at in
    inr (inl (on.0, on.1, on.2, from_mapped (first_group g) (get_or g.own_groups on.0 []) from on.3))

link_subgroup : (g : Grouping) (from to : ℕ) → IsEdge (subgroup_edges g) from to → Link g from to
link_subgroup g from to at =
    let on = list-edge ToNames (first_group g) (length g.named) (subgroups_at g) from to at in
    inl (on.0, on.1, on.2, inr (from_mapped (first_group g) (get_or g.subgroups on.0 []) to on.3))

link_named : (g : Grouping) (from to : ℕ) → IsEdge (named_edges g) from to → Link g from to
link_named g from to at =
    let on = list-edge ToNames (first_group g) (length g.named) (named_at g) from to at in
    inl (on.0, on.1, on.2, inl on.3)

link : (g : Grouping) (from to : ℕ) → IsEdge (edges_in g) from to → Link g from to
unfolding edges_in
link g from to at = ⊎_elim
    (λ (three : IsEdge (of_owners g ++ own_edges g ++ subgroup_edges g) from to). ⊎_elim
    (λ (two : IsEdge (of_owners g ++ own_edges g) from to). ⊎_elim
    (λ (one : IsEdge (of_owners g) from to). link_owner g from to one)
    (λ (own : IsEdge (own_edges g) from to). link_own g from to own)
    (Contains-append_cases (of_owners g) (own_edges g) (edge from to) two))
    (λ (subgroup : IsEdge (subgroup_edges g) from to). link_subgroup g from to subgroup)
    (Contains-append_cases (of_owners g ++ own_edges g) (subgroup_edges g) (edge from to) three))
    (λ (named : IsEdge (named_edges g) from to). link_named g from to named)
    (Contains-append_cases (of_owners g ++ own_edges g ++ subgroup_edges g) (named_edges g) (edge from to) at)

of_owner : (g : Grouping) (e : Edge) → Contains (of_owners g) e → Contains (edges_in g) e
unfolding edges_in
of_owner g e at = Contains-append_left (of_owners g ++ own_edges g ++ subgroup_edges g) (named_edges g) e
    (Contains-append_left (of_owners g ++ own_edges g) (subgroup_edges g) e (Contains-append_left (of_owners g) (own_edges g) e at))

of_own : (g : Grouping) (e : Edge) → Contains (own_edges g) e → Contains (edges_in g) e
unfolding edges_in
of_own g e at = Contains-append_left (of_owners g ++ own_edges g ++ subgroup_edges g) (named_edges g) e
    (Contains-append_left (of_owners g ++ own_edges g) (subgroup_edges g) e (Contains-append_right (of_owners g) (own_edges g) e at))

of_subgroups : (g : Grouping) (e : Edge) → Contains (subgroup_edges g) e → Contains (edges_in g) e
unfolding edges_in
of_subgroups g e at = Contains-append_left (of_owners g ++ own_edges g ++ subgroup_edges g) (named_edges g) e
    (Contains-append_right (of_owners g ++ own_edges g) (subgroup_edges g) e at)

of_named : (g : Grouping) (e : Edge) → Contains (named_edges g) e → Contains (edges_in g) e
unfolding edges_in
of_named g e at = Contains-append_right (of_owners g ++ own_edges g ++ subgroup_edges g) (named_edges g) e at

-- ---- every end is a node

edge-within : (g : Grouping) → IsWell g → (e : Edge) → Contains (edges_in g) e → IsWithin (node_count g) e
edge-within g well e at = by_link (link g e.from e.to at)
  where
    by_link : Link g e.from e.to → IsWithin (node_count g) e
    by_link (inl (p, low, is, inl named)) = record { from = omega (arith, low, is); to = (let few = well.named p e.to named in omega (arith, few)) }
    by_link (inl (p, low, is, inr (q, here, listed))) = record { from = omega (arith, low, is); to = (let few = well.subgroups p q listed in omega (arith, few, here)) }
    by_link (inr (inl (b, low, here, (p, is, named)))) = record { from = (let few = well.own_groups b p named in omega (arith, few, is)); to = omega (arith, low, here) }
    by_link (inr (inr (s, low, here, is))) = record { from = (let few = well.owners s low in omega (arith, few, is)); to = omega (arith, low, here) }

all-within : (g : Grouping) → IsWell g → (edges : List Edge) → ((e : Edge) → Contains edges e → Contains (edges_in g) e) → All (IsWithin (node_count g)) edges
all-within g well edges among = All-from_get_or (IsWithin (node_count g)) edges (edge 0 0)
    (λ i low. edge-within g well (get_or edges i (edge 0 0)) (among (get_or edges i (edge 0 0)) (Contains-get_or edges i (edge 0 0) low)))

pub owners-inside : (g : Grouping) → IsWell g → All (IsWithin (node_count g)) (owner_edges (length g.owners) g.owners)
owners-inside g well = all-within g well (of_owners g) (of_owner g)

pub own-inside : (g : Grouping) → IsWell g → All (IsWithin (node_count g)) (own_edges g)
own-inside g well = all-within g well (own_edges g) (of_own g)

pub subgroups-inside : (g : Grouping) → IsWell g → All (IsWithin (node_count g)) (subgroup_edges g)
subgroups-inside g well = all-within g well (subgroup_edges g) (of_subgroups g)

pub named-inside : (g : Grouping) → IsWell g → All (IsWithin (node_count g)) (named_edges g)
named-inside g well = all-within g well (named_edges g) (of_named g)

-- ---- from chains to members

module _ (g : Grouping) (well : IsWell g) (service : ℕ) (there : service < length g.owners) where
  -- what it means that a node leads to the service
  record Means (node : ℕ) : Type 0 where
    pub at_service : node < length g.owners → node ≡ service
    pub at_block : (b : ℕ) → b < length g.own_groups → node ≡ block_node g b → slice_get g.owners service ≡ Some b
    pub at_group : (p : ℕ) → p < length g.named → node ≡ group_node g p → IsMember g p service

  means_itself : Means service
  means_itself = record {
    at_service = λ low. refl;
    at_block = λ b low is. absurd (omega (arith, there, is));
    at_group = λ p low is. absurd (omega (arith, there, is));
  }

  means_block : (node b : ℕ) → b < length g.own_groups → node ≡ block_node g b → slice_get g.owners service ≡ Some b → Means node
  means_block node b low is owner = record {
    at_service = λ below. absurd (omega (arith, below, is));
    at_block = λ c few same. let alike : b ≡ c = omega (arith, is, same) in subst (λ (d : ℕ). slice_get g.owners service ≡ Some d) alike owner;
    at_group = λ p few same. absurd (omega (arith, low, is, same));
  }

  means_group : (node p : ℕ) → p < length g.named → node ≡ group_node g p → IsMember g p service → Means node
  means_group node p low is member = record {
    at_service = λ below. absurd (omega (arith, below, is));
    at_block = λ b few same. absurd (omega (arith, few, is, same));
    at_group = λ q few same. let alike : p ≡ q = omega (arith, is, same) in subst (λ (r : ℕ). IsMember g r service) alike member;
  }

  member_held : (p : ℕ) → Holds g p service → IsMember g p service
  member_held p holds = (p, (0, refl), holds)

  member_through : (p q : ℕ) → Includes g p q → IsMember g q service → IsMember g p service
  member_through p q includes (last, (steps, chain), holds) = (last, (suc steps, (q, includes, chain)), holds)

  means_step : (from to : ℕ) → Link g from to → Means to → Means from
  means_step from to (inl (p, low, is, inl named)) means =
      let same : to ≡ service = means.at_service (well.named p to named) in
      means_group from p low is (member_held p (inl (subst (λ (k : ℕ). Contains (get_or g.named p []) k) same named)))
  means_step from to (inl (p, low, is, inr (q, here, listed))) means =
      means_group from p low is (member_through p q listed (means.at_group q (well.subgroups p q listed) here))
  means_step from to (inr (inl (b, low, here, (p, is, named)))) means =
      means_group from p (well.own_groups b p named) is (member_held p (inr (b, means.at_block b low here, named)))
  means_step from to (inr (inr (s, low, here, is))) means =
      let same : s ≡ service = (let alike : to ≡ service = means.at_service (omega (arith, low, here)) in omega (arith, alike, here)) in
      means_block from (get_or g.owners s 0) (well.owners s low) is
      (subst (λ (k : ℕ). slice_get g.owners k ≡ Some (get_or g.owners s 0)) same (slice_get-get_or g.owners s 0 low))

  means_chain : (steps node : ℕ) → Chain (IsEdge (edges_in g)) steps node service → Means node
  means_chain zero node chain = subst Means (sym chain) means_itself
  means_chain (suc steps) node (middle, leads, chain) = means_step node middle (link g node middle leads) (means_chain steps middle chain)

  pub member-from_reached : (p : ℕ) → p < length g.named → Reaches (IsEdge (edges_in g)) (group_node g p) service → IsMember g p service
  member-from_reached p low reaches = (means_chain reaches.0 (group_node g p) reaches.1).at_group p low refl

-- ---- from members to chains

module _ (g : Grouping) (well : IsWell g) where
  led : (from to : ℕ) → IsEdge (edges_in g) from to → Reaches (IsEdge (edges_in g)) from to
  led from to at = (1, (to, at, refl))

  from_named : (p k : ℕ) → p < length g.named → Contains (named_at g p) k → Reaches (IsEdge (edges_in g)) (group_node g p) k
  from_named p k low at = led (group_node g p) k (of_named g (edge (group_node g p) k) (of-list ToNames (first_group g) (length g.named) (named_at g) p k low at))

  from_listed : (p q : ℕ) → p < length g.named → Contains (get_or g.subgroups p []) q → Reaches (IsEdge (edges_in g)) (group_node g p) (group_node g q)
  from_listed p q low at = led (group_node g p) (group_node g q) (of_subgroups g (edge (group_node g p) (group_node g q))
      (of-list ToNames (first_group g) (length g.named) (subgroups_at g) p (group_node g q) low (Contains-map (λ number. first_group g + number) (get_or g.subgroups p []) q at)))

  to_block : (b p : ℕ) → b < length g.own_groups → Contains (get_or g.own_groups b []) p → Reaches (IsEdge (edges_in g)) (group_node g p) (block_node g b)
  to_block b p low at = led (group_node g p) (block_node g b) (of_own g (edge (group_node g p) (block_node g b))
      (of-list FromNames (length g.owners) (length g.own_groups) (own_at g) b (group_node g p) low (Contains-map (λ number. first_group g + number) (get_or g.own_groups b []) p at)))

  to_service : (b s : ℕ) → s < length g.owners → get_or g.owners s 0 ≡ b → Reaches (IsEdge (edges_in g)) (block_node g b) s
  to_service b s low is = subst (λ (c : ℕ). Reaches (IsEdge (edges_in g)) (block_node g c) s) is
      (led (block_node g (get_or g.owners s 0)) s (of_owner g (edge (block_node g (get_or g.owners s 0)) s)
      (Contains-map (λ service. edge (block_node g (get_or g.owners service 0)) service) (range_with_len 0 (length g.owners)) s (Contains-range (length g.owners) s low))))

  reached_last : (steps p q : ℕ) → p < length g.named → Chain (Includes g) steps p q → (q < length g.named) × Reaches (IsEdge (edges_in g)) (group_node g p) (group_node g q)
  reached_last zero p q low chain = (omega (arith, low, chain), subst (λ (r : ℕ). Reaches (IsEdge (edges_in g)) (group_node g p) (group_node g r)) chain (0, refl))
  reached_last (suc steps) p q low (middle, includes, chain) =
      let rest = reached_last steps middle q (well.subgroups p middle includes) chain in
      (rest.0, Reaches-join (IsEdge (edges_in g)) (group_node g p) (group_node g middle) (group_node g q) (from_listed p middle low includes) rest.1)

  reached_service : (q k : ℕ) → q < length g.named → Holds g q k → (k < length g.owners) × Reaches (IsEdge (edges_in g)) (group_node g q) k
  reached_service q k low (inl named) = (well.named q k named, from_named q k low named)
  reached_service q k low (inr (b, is, named)) =
      let there = place-there g.owners k b is in
      let same : get_or g.owners k 0 ≡ b = get_or_from_slice_get g.owners k b 0 is in
      let few : b < length g.own_groups = (let bound = well.owners k there in omega (arith, bound, same)) in
      (there, Reaches-join (IsEdge (edges_in g)) (group_node g q) (block_node g b) k (to_block b q few named) (to_service b k there same))

  pub reached-from_member : (p k : ℕ) → p < length g.named → IsMember g p k → (k < length g.owners) × Reaches (IsEdge (edges_in g)) (group_node g p) k
  reached-from_member p k low (last, (steps, chain), holds) =
      let on = reached_last steps p last low chain in
      let end = reached_service last k on.0 holds in
      (end.0, Reaches-join (IsEdge (edges_in g)) (group_node g p) (group_node g last) k on.1 end.1)

  pub members-are : (graph : List (List ℕ)) (group : ℕ) (found members : List ℕ) → IsGraphOf g graph → group < length g.named → IsReached graph (group_node g group) found
      → AreBelow (length g.owners) found members → AreThose (IsMember g group) members
  members-are graph group found members has low reached below =
      let here : group_node g group < node_count g = omega (arith, low) in
      record {
        rising = below.rising;
        exactly = λ k. (
          (λ at.
              let both = (below.exactly k).0 at in
              let few = both.1 in
              member-from_reached g well k few group low ((has.same (group_node g group) k here (omega (arith, few))).0 ((reached.exactly k).0 both.0))),
          (λ member.
              let both = reached-from_member group k low member in
              let few = both.0 in
              (below.exactly k).1 ((reached.exactly k).1 ((has.same (group_node g group) k here (omega (arith, few))).1 both.1), few)),
        );
      }

module _ (g : Grouping) (well : IsWell g) (group : ℕ) (past : length g.named ≤ group) where
  none_member : (k : ℕ) → IsMember g group k → ⊥
  none_member k (last, (zero, chain), inl listed) =
      Contains-none k (subst (λ ks. Contains ks k) (get_or_past g.named last [] (omega (arith, past, chain))) listed)
  none_member k (last, (zero, chain), inr (b, is, named)) = (let few = well.own_groups b last named in omega (arith, past, chain, few))
  none_member k (last, (suc steps, (middle, includes, rest)), holds) =
      let long = well.long in
      Contains-none middle (subst (λ ks. Contains ks middle) (get_or_past g.subgroups group [] (omega (arith, long, past))) includes)

  pub none-are : AreThose (IsMember g group) []
  none-are = record {
    rising = λ k low. absurd (omega (arith, low));
    exactly = λ k. ((λ at. absurd (Contains-none k at)), (λ member. absurd (none_member k member)));
  }
