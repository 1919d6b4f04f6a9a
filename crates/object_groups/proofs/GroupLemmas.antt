-- The groups of blocks: their lists by numbers, their edges, and their members.
use Rattle.std.proofs.Common.{◌≡◌, ℕ, zero, suc, ◌+◌, ◌<◌, ◌≤◌, false, List, [], ◌∷◌, ◌++◌, append_assoc, length, map, get_or, Some, refl, sym, ap, subst, ◌∙◌, inl, inr, arith}
use Rattle.std.specs.Prelude.{All, Contains, codes, unwrap_or, ◌↔◌}
use Rattle.std.specs.Option.{option_map_or}
use Rattle.std.proofs.lemmas.Option.{slice_get_read}
use Rattle.object_inheritance.specs.Columns.{Column}
use Rattle.object_inheritance.specs.claims.Inherited.{value}
use Rattle.std.specs.List.{flat_map, range_with_len}
use Rattle.std.proofs.lemmas.Bool.{false≢true}
use Rattle.std.proofs.lemmas.List.{get_or-map, get_or_default, get_or_past, map-append}
use Rattle.std.proofs.lemmas.List.Concat.{flat_map-cons}
use Rattle.std.proofs.lemmas.List.Elements.{All-from_get_or, Contains-get_or}
use Rattle.graph.specs.declared.edges.Edge.{Edge}
use Rattle.graph.specs.claims.Chains.{Reaches}
use Rattle.graph.specs.claims.Edges.{Leads}
use Rattle.graph.specs.Edges.{HasEdges, IsWithin}
use Rattle.graph.specs.Reach.{IsReached}
use Rattle.object_reader.specs.declared.block.Block.{Block}
use Rattle.object_reader.specs.declared.block.BlockKind.{BlockKind}
use Rattle.object_groups.specs.declared.groups.GroupKind.{GroupKind}
use Rattle.object_groups.specs.claims.Groups.{group_kind, grouping, object_kind, own_groups_directive, subgroups_directive}
use Rattle.object_groups.specs.claims.Members.{Grouping, IsMember}
use Rattle.object_groups.specs.Members.{AreMembers}
use Rattle.object_groups.specs.claims.Names.{Lists}
use Rattle.object_groups.specs.declared.lists.Direction.{Direction}
use Rattle.object_groups.specs.declared.lists.Direction.TheVariants.{FromNames, ToNames}
use Rattle.object_groups.specs.declared.lists.ListNodes.{ListNodes}
use Rattle.object_groups.specs.ListEdges.{between, edge, edges_at, IsEdge, LeadOver, list_edges, nodes_at, nodes_of}
use Rattle.object_groups.specs.Nodes.{all_objects, AreBelow, edges_in, end_edges, group_ends, group_node, IsGraphOf, member_edges, node_count, own_edges, subgroup_edges}
use Rattle.object_groups.specs.ReachLaws.{lead-on}
use Rattle.object_groups.specs.claims.Objects.{is_object, is_object_at, list_at, lists_in, name_at, name_directive, names_in, objects_in}
use Rattle.object_groups.specs.Objects.{ObjectsOf}
use Rattle.object_groups.proofs.NodeLemmas.{ends-within, member-from_reached, members-within, reached-from_member, subgroups-within}
use Rattle.object_groups.specs.ObjectLaws.{listed-within, names-long}
use Rattle.lemmas.proofs.Chains.{Chain-map}
use Rattle.lemmas.proofs.Edges.{edges-more}
use Rattle.lemmas.proofs.Numbers.{below_more}
use Rattle.lemmas.proofs.Elements.{Contains-from_filter, Contains-from_range, Contains-here, Contains-later, Contains-none}

-- ---- lists by numbers

pub list-is : (blocks : List Block) (kind : BlockKind) (directive : List ℕ) (number place : ℕ) → number < length (objects_in blocks kind) → place ≡ get_or (objects_in blocks kind) number place
    → get_or (lists_in blocks kind directive) number [] ≡ list_at blocks directive place
unfolding lists_in
list-is blocks kind directive number place within is =
    get_or-map (list_at blocks directive) (objects_in blocks kind) number place [] within ∙ ap (list_at blocks directive) (sym is)

-- ---- objects

pub objects-within : (blocks : List Block) (kind : BlockKind) → All (λ place. place < length blocks) (objects_in blocks kind)
unfolding objects_in
objects-within blocks kind = All-from_get_or (λ place. place < length blocks) (objects_in blocks kind) 0
    (λ i low. Contains-from_range (length blocks) (get_or (objects_in blocks kind) i 0)
    ((Contains-from_filter (is_object_at blocks kind) (range_with_len 0 (length blocks)) (get_or (objects_in blocks kind) i 0) (Contains-get_or (objects_in blocks kind) i 0 low)).0))

pub object-is : (blocks : List Block) (kind : BlockKind) (i : ℕ) (block : Block) → i < length blocks → block ≡ get_or blocks i block → is_object_at blocks kind i ≡ is_object kind block
object-is blocks kind i block within is = ap (λ found. option_map_or (is_object kind) found false) (slice_get_read blocks (length blocks) i block refl within is)

pub names-are : (templates blocks : List Block) (kind : BlockKind) (directive : List ℕ) (column : Column) (places given : List ℕ) (named : List (List ℕ)) → blocks ≡ templates
    → column ≡ record { blocks = templates; directive = directive } → directive ≡ name_directive kind → given ≡ places → places ≡ objects_in blocks kind
    → named ≡ map (λ place. unwrap_or (value column.blocks column.directive place) []) given → named ≡ names_in blocks kind
unfolding names_in
names-are templates blocks kind directive column places given named same column_is directive_is given_is places_are named_are =
    named_are ∙ ap (λ (c : Column). map (λ place. unwrap_or (value c.blocks c.directive place) []) given) column_is
    ∙ ap (λ (d : List ℕ). map (λ place. unwrap_or (value templates d place) []) given) directive_is
    ∙ ap (λ (bs : List Block). map (name_at bs kind) given) (sym same)
    ∙ ap (map (name_at blocks kind)) (given_is ∙ places_are)

-- ---- edges

flat-same : (f h : ℕ → List Edge) (ns : List ℕ) → ((n : ℕ) → Contains ns n → f n ≡ h n) → flat_map f ns ≡ flat_map h ns
flat-same f h [] same = refl
flat-same f h (n ∷ ns) same =
    flat_map-cons f n ns ∙ ap (λ (es : List Edge). es ++ flat_map f ns) (same n (Contains-here n ns))
    ∙ ap (λ (es : List Edge). h n ++ es) (flat-same f h ns (λ m at. same m (Contains-later n m ns at))) ∙ sym (flat_map-cons h n ns)

pub edges-same : (direction : Direction) (node count : ℕ) (nodes others : ℕ → List ℕ) → ((k : ℕ) → k < count → nodes k ≡ others k) → list_edges direction node count nodes ≡ list_edges direction node count others
edges-same direction node count nodes others same =
    flat-same (λ k. map (between direction (node + k)) (nodes k)) (λ k. map (between direction (node + k)) (others k)) (range_with_len 0 count)
    (λ k at. ap (λ (ends : List ℕ). map (between direction (node + k)) ends) (same k (Contains-from_range count k at)))

-- the edges of the lists that blocks of a type have for a directive
pub edges-are : (blocks : List Block) (kind : BlockKind) (directive : List ℕ) (names given : List (List ℕ)) (column : Column) (places : List ℕ) (count : ℕ) (nodes : ListNodes)
    → column ≡ record { blocks = blocks; directive = directive } → places ≡ objects_in blocks kind → given ≡ names → count ≡ length (objects_in blocks kind)
    → edges_at given column.blocks column.directive places nodes
    ≡ list_edges nodes.direction nodes.node count (λ k. nodes_of names (get_or (lists_in blocks kind directive) k []) nodes.first nodes.all)
edges-are blocks kind directive names given column places count nodes column_is places_are given_is count_is =
    ap (λ (c : Column). edges_at given c.blocks c.directive places nodes) column_is
    ∙ ap (λ (ps : List ℕ). edges_at given blocks directive ps nodes) places_are
    ∙ ap (λ (ns : List (List ℕ)). edges_at ns blocks directive (objects_in blocks kind) nodes) given_is
    ∙ edges-same nodes.direction nodes.node (length (objects_in blocks kind)) (nodes_at names blocks directive (objects_in blocks kind) nodes)
    (λ k. nodes_of names (get_or (lists_in blocks kind directive) k []) nodes.first nodes.all)
    (λ k low. ap (λ (entries : List (List ℕ)). nodes_of names entries nodes.first nodes.all) (sym (list-is blocks kind directive k (get_or (objects_in blocks kind) k 0) low (at-default blocks kind k low))))
    ∙ ap (λ (n : ℕ). list_edges nodes.direction nodes.node n (λ k. nodes_of names (get_or (lists_in blocks kind directive) k []) nodes.first nodes.all)) (sym count_is)
  where
    at-default : (bs : List Block) (of : BlockKind) (k : ℕ) → k < length (objects_in bs of) → get_or (objects_in bs of) k 0 ≡ get_or (objects_in bs of) k (get_or (objects_in bs of) k 0)
    at-default bs of k low = get_or_default (objects_in bs of) k 0 (get_or (objects_in bs of) k 0) low

module _ (blocks : List Block) (kind : GroupKind) (given : List (List ℕ)) (column : Column) (places : List ℕ) (first groups count : ℕ)
    (first_is : first ≡ length (names_in blocks (object_kind kind))) (groups_are : groups ≡ length (names_in blocks (group_kind kind))) where
  abbrev g : Grouping
  g = grouping blocks kind

  pub own-are : column ≡ record { blocks = blocks; directive = own_groups_directive kind } → places ≡ objects_in blocks (object_kind kind) → given ≡ names_in blocks (group_kind kind)
      → edges_at given column.blocks column.directive places (record { direction = FromNames; node = 0; first = first; all = Some (first + groups + 2); count = count }) ≡ own_edges g
  own-are column_is places_are given_is =
      edges-are blocks (object_kind kind) (own_groups_directive kind) g.groups given column places (length g.objects) (record { direction = FromNames; node = 0; first = first; all = Some (first + groups + 2); count = count })
      column_is places_are given_is (names-long blocks (object_kind kind))
      ∙ ap (λ (n : ℕ). list_edges FromNames 0 (length g.objects) (λ k. nodes_of g.groups (get_or g.own_groups k []) n (Some (n + groups + 2)))) first_is
      ∙ ap (λ (n : ℕ). list_edges FromNames 0 (length g.objects) (λ k. nodes_of g.groups (get_or g.own_groups k []) (length g.objects) (Some (length g.objects + n + 2)))) groups_are

  pub members-listed : column ≡ record { blocks = blocks; directive = codes "members" } → places ≡ objects_in blocks (group_kind kind) → given ≡ names_in blocks (object_kind kind)
      → edges_at given column.blocks column.directive places (record { direction = ToNames; node = first; first = 0; all = Some (first + groups); count = count }) ≡ member_edges g
  members-listed column_is places_are given_is =
      edges-are blocks (group_kind kind) (codes "members") g.objects given column places (length g.groups) (record { direction = ToNames; node = first; first = 0; all = Some (first + groups); count = count })
      column_is places_are given_is (names-long blocks (group_kind kind))
      ∙ ap (λ (n : ℕ). list_edges ToNames n (length g.groups) (λ p. nodes_of g.objects (get_or g.members p []) 0 (Some (n + groups)))) first_is
      ∙ ap (λ (n : ℕ). list_edges ToNames (length g.objects) (length g.groups) (λ p. nodes_of g.objects (get_or g.members p []) 0 (Some (length g.objects + n)))) groups_are

  pub subgroups-listed : column ≡ record { blocks = blocks; directive = subgroups_directive kind } → places ≡ objects_in blocks (group_kind kind) → given ≡ names_in blocks (group_kind kind)
      → edges_at given column.blocks column.directive places (record { direction = ToNames; node = first; first = first; all = Some (first + groups + 1); count = count }) ≡ subgroup_edges g
  subgroups-listed column_is places_are given_is =
      edges-are blocks (group_kind kind) (subgroups_directive kind) g.groups given column places (length g.groups) (record { direction = ToNames; node = first; first = first; all = Some (first + groups + 1); count = count })
      column_is places_are given_is (names-long blocks (group_kind kind))
      ∙ ap (λ (n : ℕ). list_edges ToNames n (length g.groups) (λ p. nodes_of g.groups (get_or g.subgroups p []) n (Some (n + groups + 1)))) first_is
      ∙ ap (λ (n : ℕ). list_edges ToNames (length g.objects) (length g.groups) (λ p. nodes_of g.groups (get_or g.subgroups p []) (length g.objects) (Some (length g.objects + n + 1)))) groups_are

-- one group's ends more
pub ends-more : (objects groups : List (List ℕ)) (first count p : ℕ) (start old middle new : List Edge) → first ≡ length objects → count ≡ length groups
    → old ≡ start ++ flat_map (group_ends objects groups) (range_with_len 0 p) → middle ≡ old ++ edge (first + p) (first + count + 2) ∷ [] → new ≡ middle ++ edge (first + count + 1) (first + p) ∷ []
    → new ≡ start ++ flat_map (group_ends objects groups) (range_with_len 0 (p + 1))
ends-more objects groups first count p start old middle new first_is count_is before one two =
    edges-more (group_ends objects groups) start p old new (edge (first + p) (first + count + 2) ∷ edge (first + count + 1) (first + p) ∷ []) before
    (two ∙ ap (λ (es : List Edge). es ++ edge (first + count + 1) (first + p) ∷ []) one ∙ append_assoc old (edge (first + p) (first + count + 2) ∷ []) (edge (first + count + 1) (first + p) ∷ []))
    (ap (λ (n : ℕ). edge (n + p) (n + count + 2) ∷ edge (n + count + 1) (n + p) ∷ []) first_is
    ∙ ap (λ (n : ℕ). edge (length objects + p) (length objects + n + 2) ∷ edge (length objects + n + 1) (length objects + p) ∷ []) count_is)

-- one object's more
pub object-end-more : (node other k : ℕ) (start old new : List Edge) → node ≡ other → old ≡ start ++ map (edge other) (range_with_len 0 k) → new ≡ old ++ edge node k ∷ []
    → new ≡ start ++ map (edge other) (range_with_len 0 (k + 1))
object-end-more node other k start old new same before more =
    more ∙ ap (λ (es : List Edge). es ++ edge node k ∷ []) before ∙ append_assoc start (map (edge other) (range_with_len 0 k)) (edge node k ∷ [])
    ∙ ap (λ (n : ℕ). start ++ (map (edge other) (range_with_len 0 k) ++ edge n k ∷ [])) same
    ∙ ap (λ (es : List Edge). start ++ es) (sym (ap (map (edge other)) (below_more k) ∙ map-append (edge other) (range_with_len 0 k) (k ∷ [])))

-- how many objects of a table there are
pub table-long : (blocks : List Block) (kind : BlockKind) (table : ObjectsOf) (names : List (List ℕ)) (count : ℕ) → table ≡ record { blocks = blocks; kind = kind }
    → names ≡ names_in table.blocks table.kind → count ≡ length names → count ≡ length (names_in blocks kind)
table-long blocks kind table names count table_is names_are count_is =
    count_is ∙ ap (λ (ns : List (List ℕ)). length ns) names_are ∙ ap (λ (o : ObjectsOf). length (names_in o.blocks o.kind)) table_is

pub table-names : (blocks : List Block) (kind : BlockKind) (table : ObjectsOf) (names : List (List ℕ)) → table ≡ record { blocks = blocks; kind = kind } → names ≡ names_in table.blocks table.kind
    → names ≡ names_in blocks kind
table-names blocks kind table names table_is names_are = names_are ∙ ap (λ (o : ObjectsOf). names_in o.blocks o.kind) table_is

-- the ends of all groups and objects
pub ends-are : (g : Grouping) (objects groups others more : List (List ℕ)) (start one two : List Edge) → start ≡ [] → objects ≡ g.objects → groups ≡ g.groups → others ≡ g.objects → more ≡ g.groups
    → one ≡ start ++ flat_map (group_ends objects groups) (range_with_len 0 (length groups)) → two ≡ one ++ map (edge (all_objects others more)) (range_with_len 0 (length others))
    → two ≡ end_edges g.objects g.groups
ends-are g objects groups others more start one two none objects_are groups_are others_are more_are first second =
    second
    ∙ ap (λ (es : List Edge). es ++ map (edge (all_objects others more)) (range_with_len 0 (length others)))
    (first ∙ ap (λ (es : List Edge). es ++ flat_map (group_ends objects groups) (range_with_len 0 (length groups))) none
    ∙ ap (λ (os : List (List ℕ)). flat_map (group_ends os groups) (range_with_len 0 (length groups))) objects_are
    ∙ ap (λ (gs : List (List ℕ)). flat_map (group_ends g.objects gs) (range_with_len 0 (length gs))) groups_are)
    ∙ ap (λ (os : List (List ℕ)). flat_map (group_ends g.objects g.groups) (range_with_len 0 (length g.groups)) ++ map (edge (all_objects os more)) (range_with_len 0 (length os))) others_are
    ∙ ap (λ (gs : List (List ℕ)). flat_map (group_ends g.objects g.groups) (range_with_len 0 (length g.groups)) ++ map (edge (all_objects g.objects gs)) (range_with_len 0 (length g.objects))) more_are

pub graph-is : (g : Grouping) (edges given : List Edge) (next : ℕ) (graph : List (List ℕ)) → LeadOver (node_count g.objects g.groups) (edges_in g) next edges → given ≡ edges
    → HasEdges next given graph → ((p q : ℕ) → Leads graph p q ↔ Contains given (record { from = p; to = q })) → IsGraphOf g graph
graph-is g edges given next graph over are has leads = record {
  count = (let few = over.more in let all = has.count in omega (arith, few, all));
  same = λ from to low high. (
    (λ (reaches : Reaches (Leads graph) from to). (over.same from to low high).0 (there from to reaches)),
    (λ (reaches : Reaches (IsEdge (edges_in g)) from to). back from to ((over.same from to low high).1 reaches)),
  );
}
  where
    there : (from to : ℕ) → Reaches (Leads graph) from to → Reaches (IsEdge edges) from to
    there from to (steps, chain) = (steps, Chain-map (Leads graph) (IsEdge edges) (λ p q at. subst (λ (es : List Edge). Contains es (edge p q)) are ((leads p q).0 at)) steps from to chain)

    back : (from to : ℕ) → Reaches (IsEdge edges) from to → Reaches (Leads graph) from to
    back from to (steps, chain) = (steps, Chain-map (IsEdge edges) (Leads graph) (λ p q at. (leads p q).1 (subst (λ (es : List Edge). Contains es (edge p q)) (sym are) at)) steps from to chain)

-- all edges, over the nodes of shared lists: first the ends, then those of each kind of list
module _ (g : Grouping) (n : ℕ) (n_is : n ≡ node_count g.objects g.groups) where
  pub own-lead : (ends two : List Edge) (next : ℕ) → ends ≡ end_edges g.objects g.groups → LeadOver n (ends ++ own_edges g) next two
      → LeadOver n (end_edges g.objects g.groups ++ own_edges g) next two
  own-lead ends two next ends_are over = subst (λ (es : List Edge). LeadOver n (es ++ own_edges g) next two) ends_are over

  pub ends-below : (ends : List Edge) → ends ≡ end_edges g.objects g.groups → All (IsWithin n) ends
  ends-below ends ends_are =
      subst (λ (m : ℕ). All (IsWithin m) ends) (sym n_is)
      (subst (λ (es : List Edge). All (IsWithin (node_count g.objects g.groups)) es) (sym ends_are) (ends-within g))

  pub all-lead : (two three four : List Edge) (m l next : ℕ) → LeadOver n (end_edges g.objects g.groups ++ own_edges g) m two → LeadOver m (two ++ member_edges g) l three
      → LeadOver l (three ++ subgroup_edges g) next four → LeadOver n (edges_in g) next four
  unfolding edges_in
  all-lead two three four m l next own members subgroups =
      lead-on n l next (end_edges g.objects g.groups ++ own_edges g ++ member_edges g) (subgroup_edges g) three four
      (lead-on n m l (end_edges g.objects g.groups ++ own_edges g) (member_edges g) two three own (subst (λ (k : ℕ). All (IsWithin k) (member_edges g)) (sym n_is) (members-within g)) members)
      (subst (λ (k : ℕ). All (IsWithin k) (subgroup_edges g)) (sym n_is) (subgroups-within g)) subgroups

-- ---- members

pub members-are : (g : Grouping) (graph : List (List ℕ)) (group : ℕ) (found members : List ℕ) → length g.own_groups ≡ length g.objects → group < length g.groups → IsGraphOf g graph
    → IsReached graph (group_node g.objects group) found → AreBelow (length g.objects) found members → AreMembers g group members
members-are g graph group found members long low has reached below =
    let here : group_node g.objects group < node_count g.objects g.groups = omega (arith, low) in
    record {
      rising = below.rising;
      exactly = λ k. (
        (λ at.
            let both = (below.exactly k).0 at in
            let few = both.1 in
            member-from_reached g k few group low ((has.same (group_node g.objects group) k here (omega (arith, few))).0 ((reached.exactly k).0 both.0))),
        (λ member.
            let both = reached-from_member g long group k low member in
            let few = both.0 in
            (below.exactly k).1 ((reached.exactly k).1 ((has.same (group_node g.objects group) k here (omega (arith, few))).1 both.1), few)),
      );
    }

none-listed : (names : List (List ℕ)) (k : ℕ) → Lists names [] k → ⊥
none-listed names k (inl every) = false≢true every.0
none-listed names k (inr named) = Contains-none k named

module _ (g : Grouping) (group : ℕ) (members : length g.members ≡ length g.groups) (subgroups : length g.subgroups ≡ length g.groups) (past : length g.groups ≤ group) where
  none_member : (k : ℕ) → IsMember g group k → ⊥
  none_member k (last, (zero, chain), inl listed) =
      none-listed g.objects k (subst (λ entries. Lists g.objects entries k) (get_or_past g.members last [] (omega (arith, members, past, chain))) listed)
  none_member k (last, (zero, chain), inr own) = omega (arith, past, chain, listed-within g.groups (get_or g.own_groups k []) last own)
  none_member k (last, (suc steps, (middle, includes, rest)), holds) =
      none-listed g.groups middle (subst (λ entries. Lists g.groups entries middle) (get_or_past g.subgroups group [] (omega (arith, subgroups, past))) includes)

  pub none-are : AreMembers g group []
  none-are = record {
    rising = λ k low. absurd (omega (arith, low));
    exactly = λ k. ((λ at. absurd (Contains-none k at)), (λ member. absurd (none_member k member)));
  }
