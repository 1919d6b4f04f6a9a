-- The service groups of blocks: their lists by numbers, their edges, and what is kept of them.
use Rattle.std.proofs.Common.{◌≡◌, ℕ, ◌+◌, ◌<◌, ◌^◌, List, [], ◌∷◌, ◌++◌, length, map, get_or, None, refl, sym, ap, subst, ◌∙◌, inl, inr, arith}
use Rattle.std.specs.Prelude.{All, Contains, codes, ◌↔◌}
use Rattle.std.specs.List.{AllZip, flat_map, range_with_len}
use Rattle.std.proofs.lemmas.List.{append-nil, get_or-map, get_or_default, length-map}
use Rattle.std.proofs.lemmas.List.Concat.{flat_map-cons}
use Rattle.std.proofs.lemmas.List.Elements.{Contains-get_or}
use Rattle.graph.specs.declared.edges.Edge.{Edge}
use Rattle.graph.specs.claims.Chains.{Reaches}
use Rattle.graph.specs.claims.Edges.{Leads}
use Rattle.graph.specs.Edges.{HasEdges, IsWithin}
use Rattle.lemmas.proofs.Chains.{Chain-map}
use Rattle.lemmas.proofs.Elements.{Contains-from_range, Contains-here, Contains-later}
use Rattle.object_groups.specs.declared.lists.Direction.{Direction}
use Rattle.object_groups.specs.declared.lists.Direction.TheVariants.{FromNames, ToNames}
use Rattle.object_groups.specs.declared.lists.ListNodes.{ListNodes}
use Rattle.object_groups.specs.ListEdges.{between, edge, edges_at, IsEdge, LeadOver, list_edges, nodes_at}
use Rattle.object_groups.specs.claims.Names.{numbers_of}
use Rattle.object_groups.specs.claims.Objects.{list_at, names_in, objects_in}
use Rattle.object_groups.specs.Objects.{ObjectsOf}
use Rattle.object_groups.specs.ObjectLaws.{names-long, numbers-within}
use Rattle.object_groups.specs.ReachLaws.{lead-none, lead-on}
use Rattle.object_inheritance.specs.Columns.{Column}
use Rattle.object_pairs.specs.claims.Members.{places_of}
use Rattle.object_reader.specs.declared.block.Block.{Block}
use Rattle.object_reader.specs.declared.block.BlockKind.{BlockKind}
use Rattle.object_reader.specs.declared.block.BlockKind.TheVariants.{Host, Service, ServiceGroup}
use Rattle.object_services.specs.claims.Hosts.{AreHosts}
use Rattle.object_services.specs.claims.Limits.{AreHostLists}
use Rattle.object_services.specs.claims.Numbers.{Pair, pairs_of}
use Rattle.object_services.specs.HostLaws.{hosts-one}
use Rattle.object_service_groups.specs.claims.Groups.{grouping, groups_in, named_in, owners_of}
use Rattle.object_service_groups.specs.Groups.{AreNodes, AreServiceGroups, LeadsToMembers, listed_in}
use Rattle.object_service_groups.specs.claims.Members.{Grouping, IsMember}
use Rattle.object_service_groups.specs.Nodes.{edges_in, first_group, IsGraphOf, IsKeptOf, named_edges, node_count, own_edges, owner_edges, subgroup_edges}
use Rattle.object_service_groups.specs.Pairs.{services_at}
use Rattle.object_service_groups.proofs.ElementLemmas.{mapped-within, owners-long, owners-within, place-there, places-within}
use Rattle.object_service_groups.proofs.NodeLemmas.{IsWell, member-from_reached, named-inside, owners-inside, reached-from_member, subgroups-inside}

-- ---- lists by numbers

pub named-long : (blocks : List Block) (services : List Pair) → length (named_in blocks services) ≡ length (objects_in blocks ServiceGroup)
unfolding named_in
named-long blocks services = length-map (objects_in blocks ServiceGroup) (λ place. places_of (names_in blocks Host) services (list_at blocks (codes "members") place))

pub groups-long : (blocks : List Block) (kind : BlockKind) (directive : List ℕ) → length (groups_in blocks kind directive) ≡ length (objects_in blocks kind)
unfolding groups_in
groups-long blocks kind directive = length-map (objects_in blocks kind) (λ place. numbers_of (names_in blocks ServiceGroup) (list_at blocks directive place))

named-within : (blocks : List Block) (services : List Pair) (p s : ℕ) → Contains (get_or (named_in blocks services) p []) s → s < length services
unfolding named_in
named-within blocks services p s at =
    mapped-within (λ place. places_of (names_in blocks Host) services (list_at blocks (codes "members") place)) (objects_in blocks ServiceGroup) (length services)
    (λ place k on. places-within (names_in blocks Host) services (list_at blocks (codes "members") place) k on) p s at

groups-within : (blocks : List Block) (kind : BlockKind) (directive : List ℕ) (p q : ℕ) → Contains (get_or (groups_in blocks kind directive) p []) q → q < length (names_in blocks ServiceGroup)
unfolding groups_in
groups-within blocks kind directive p q at =
    mapped-within (λ place. numbers_of (names_in blocks ServiceGroup) (list_at blocks directive place)) (objects_in blocks kind) (length (names_in blocks ServiceGroup))
    (λ place k on. numbers-within (names_in blocks ServiceGroup) (list_at blocks directive place) k on) p q at

named-is : (blocks : List Block) (services : List Pair) (group place : ℕ) → group < length (objects_in blocks ServiceGroup) → place ≡ get_or (objects_in blocks ServiceGroup) group place
    → get_or (named_in blocks services) group [] ≡ places_of (names_in blocks Host) services (list_at blocks (codes "members") place)
unfolding named_in
named-is blocks services group place within is =
    get_or-map (λ p. places_of (names_in blocks Host) services (list_at blocks (codes "members") p)) (objects_in blocks ServiceGroup) group place [] within
    ∙ ap (λ (p : ℕ). places_of (names_in blocks Host) services (list_at blocks (codes "members") p)) (sym is)

groups-are : (blocks : List Block) (kind : BlockKind) (directive : List ℕ) (number place : ℕ) → number < length (objects_in blocks kind) → place ≡ get_or (objects_in blocks kind) number place
    → get_or (groups_in blocks kind directive) number [] ≡ numbers_of (names_in blocks ServiceGroup) (list_at blocks directive place)
unfolding groups_in
groups-are blocks kind directive number place within is =
    get_or-map (λ p. numbers_of (names_in blocks ServiceGroup) (list_at blocks directive p)) (objects_in blocks kind) number place [] within
    ∙ ap (λ (p : ℕ). numbers_of (names_in blocks ServiceGroup) (list_at blocks directive p)) (sym is)

-- ---- edges

flat-same : (f h : ℕ → List Edge) (ns : List ℕ) → ((n : ℕ) → Contains ns n → f n ≡ h n) → flat_map f ns ≡ flat_map h ns
flat-same f h [] same = refl
flat-same f h (n ∷ ns) same =
    flat_map-cons f n ns ∙ ap (λ (es : List Edge). es ++ flat_map f ns) (same n (Contains-here n ns))
    ∙ ap (λ (es : List Edge). h n ++ es) (flat-same f h ns (λ m at. same m (Contains-later n m ns at))) ∙ sym (flat_map-cons h n ns)

edges-same : (direction : Direction) (node count : ℕ) (nodes others : ℕ → List ℕ) → ((k : ℕ) → k < count → nodes k ≡ others k) → list_edges direction node count nodes ≡ list_edges direction node count others
edges-same direction node count nodes others same =
    flat-same (λ k. map (between direction (node + k)) (nodes k)) (λ k. map (between direction (node + k)) (others k)) (range_with_len 0 count)
    (λ k at. ap (λ (ends : List ℕ). map (between direction (node + k)) ends) (same k (Contains-from_range count k at)))

-- the edges of the lists of groups that blocks of a type have for a directive
pub listed-are : (blocks : List Block) (kind : BlockKind) (directive : List ℕ) (given : List (List ℕ)) (column : Column) (places : List ℕ) (direction : Direction) (node first count : ℕ)
    → column ≡ record { blocks = blocks; directive = directive } → places ≡ objects_in blocks kind → given ≡ names_in blocks ServiceGroup
    → edges_at given column.blocks column.directive places (record { direction = direction; node = node; first = first; all = None; count = count })
    ≡ list_edges direction node (length (objects_in blocks kind)) (listed_in blocks kind directive first)
listed-are blocks kind directive given column places direction node first count column_is places_are given_is =
    let nodes : ListNodes = record { direction = direction; node = node; first = first; all = None; count = count } in
    ap (λ (c : Column). edges_at given c.blocks c.directive places nodes) column_is
    ∙ ap (λ (ps : List ℕ). edges_at given blocks directive ps nodes) places_are
    ∙ ap (λ (ns : List (List ℕ)). edges_at ns blocks directive (objects_in blocks kind) nodes) given_is
    ∙ edges-same direction node (length (objects_in blocks kind)) (nodes_at (names_in blocks ServiceGroup) blocks directive (objects_in blocks kind) nodes) (listed_in blocks kind directive first)
    (λ k low. ap (λ (ns : List ℕ). map (λ group. first + group) ns)
    (sym (groups-are blocks kind directive k (get_or (objects_in blocks kind) k 0) low (get_or_default (objects_in blocks kind) k 0 (get_or (objects_in blocks kind) k 0) low))))

-- and of the lists of members
pub named-are : (blocks : List Block) (services : List Pair) (hosts : List (List ℕ)) (column : Column) (places : List ℕ) (first : ℕ)
    → hosts ≡ names_in blocks Host → column ≡ record { blocks = blocks; directive = codes "members" } → places ≡ objects_in blocks ServiceGroup
    → list_edges ToNames first (length places) (services_at hosts services column.blocks column.directive places)
    ≡ list_edges ToNames first (length (objects_in blocks ServiceGroup)) (λ group. get_or (named_in blocks services) group [])
named-are blocks services hosts column places first hosts_are column_is places_are =
    ap (λ (hs : List (List ℕ)). list_edges ToNames first (length places) (services_at hs services column.blocks column.directive places)) hosts_are
    ∙ ap (λ (c : Column). list_edges ToNames first (length places) (services_at (names_in blocks Host) services c.blocks c.directive places)) column_is
    ∙ ap (λ (ps : List ℕ). list_edges ToNames first (length ps) (services_at (names_in blocks Host) services blocks (codes "members") ps)) places_are
    ∙ edges-same ToNames first (length (objects_in blocks ServiceGroup)) (services_at (names_in blocks Host) services blocks (codes "members") (objects_in blocks ServiceGroup))
    (λ group. get_or (named_in blocks services) group [])
    (λ k low. sym (named-is blocks services k (get_or (objects_in blocks ServiceGroup) k 0) low
    (get_or_default (objects_in blocks ServiceGroup) k 0 (get_or (objects_in blocks ServiceGroup) k 0) low)))

-- where there is no group, none
pub named-none : (blocks : List Block) (nodes : ℕ → List ℕ) (first count : ℕ) (edges : List Edge) (places : List ℕ) → places ≡ objects_in blocks ServiceGroup → length places ≡ 0 → All (IsWithin count) edges
    → LeadOver count (edges ++ list_edges ToNames first (length (objects_in blocks ServiceGroup)) nodes) count edges
named-none blocks nodes first count edges places are none inside =
    let long : length (objects_in blocks ServiceGroup) ≡ 0 = sym (ap (λ (ps : List ℕ). length ps) are) ∙ none in
    subst (λ (n : ℕ). LeadOver count (edges ++ list_edges ToNames first n nodes) count edges) (sym long)
    (subst (λ (es : List Edge). LeadOver count es count edges) (sym (append-nil edges)) (lead-none count edges inside))

pub graph-is : (g : Grouping) (edges given : List Edge) (count next : ℕ) (graph : List (List ℕ)) → count ≡ node_count g → LeadOver count (edges_in g) next edges → given ≡ edges
    → HasEdges next given graph → ((p q : ℕ) → Leads graph p q ↔ Contains given (record { from = p; to = q })) → IsGraphOf g graph
graph-is g edges given count next graph count_is over are has leads = record {
  count = (let few = over.more in let all = has.count in omega (arith, few, all, count_is));
  same = λ from to low high.
      let alike = over.same from to (omega (arith, low, count_is)) (omega (arith, high, count_is)) in
      ((λ (reaches : Reaches (Leads graph) from to). alike.0 (there from to reaches)), (λ (reaches : Reaches (IsEdge (edges_in g)) from to). back from to (alike.1 reaches)));
}
  where
    there : (from to : ℕ) → Reaches (Leads graph) from to → Reaches (IsEdge edges) from to
    there from to (steps, chain) = (steps, Chain-map (Leads graph) (IsEdge edges) (λ p q at. subst (λ (es : List Edge). Contains es (edge p q)) are ((leads p q).0 at)) steps from to chain)

    back : (from to : ℕ) → Reaches (IsEdge edges) from to → Reaches (Leads graph) from to
    back from to (steps, chain) = (steps, Chain-map (IsEdge edges) (Leads graph) (λ p q at. (leads p q).1 (subst (λ (es : List Edge). Contains es (edge p q)) (sym are) at)) steps from to chain)

pub kept-is : (g : Grouping) (graph : List (List ℕ)) → IsGraphOf g graph → IsKeptOf g graph
kept-is g graph is = record { count = is.count; graph_is = λ some. is }

-- without a group the nodes are enough
pub nodes-are : (g : Grouping) (count : ℕ) (graph : List (List ℕ)) → count ≡ node_count g → length g.named ≡ 0 → length graph ≡ count → IsKeptOf g graph
nodes-are g count graph count_is none long = record { count = omega (arith, count_is, long); graph_is = λ some. absurd (omega (arith, some, none)) }

-- ---- what is below what

pub zip-long : {X Y : Type 0} (R : X → Y → Type 0) (xs : List X) (ys : List Y) → AllZip R xs ys → length xs ≡ length ys
zip-long R [] [] all = refl
zip-long R [] (y ∷ ys) all = absurd all
zip-long R (x ∷ xs) [] all = absurd all
zip-long R (x ∷ xs) (y ∷ ys) all = let rest = zip-long R xs ys all.1 in omega (arith, rest)

pub grouping-well : (blocks : List Block) (lists : List (List ℕ)) → AreHostLists blocks (objects_in blocks Service) lists → IsWell (grouping blocks lists)
grouping-well blocks lists are =
    let pairs = pairs_of (names_in blocks Service) lists in
    let long = owners-long (names_in blocks Service) lists in
    let named_long = named-long blocks pairs in
    let names_long = names-long blocks ServiceGroup in
    let blocks_long = groups-long blocks Service (codes "servicegroups") in
    let lists_long = zip-long (AreHosts blocks) (objects_in blocks Service) lists are in
    record {
      long = groups-long blocks ServiceGroup (codes "servicegroup_members") ∙ sym named_long;
      named = λ p s at. let low = named-within blocks pairs p s at in omega (arith, low, long);
      subgroups = λ p q at. let low = groups-within blocks ServiceGroup (codes "servicegroup_members") p q at in omega (arith, low, named_long, names_long);
      own_groups = λ b p at. let low = groups-within blocks Service (codes "servicegroups") b p at in omega (arith, low, named_long, names_long);
      owners = λ s few. let low = owners-within lists (get_or (owners_of lists) s 0) (Contains-get_or (owners_of lists) s 0 few) in omega (arith, low, blocks_long, lists_long);
    }

-- ---- all edges, over the nodes of shared lists

module _ (blocks : List Block) (lists : List (List ℕ)) (services : List Pair) (owners : List ℕ) (middle first count : ℕ) (services_are : services ≡ pairs_of (names_in blocks Service) lists)
    (owners_are : owners ≡ owners_of lists) (middle_is : middle ≡ length owners) (first_is : first ≡ length owners + length (objects_in blocks Service))
    (count_is : count ≡ first + length (objects_in blocks ServiceGroup)) where
  abbrev g : Grouping
  g = grouping blocks lists

  middle-same : middle ≡ length g.owners
  middle-same = middle_is ∙ ap (λ (os : List ℕ). length os) owners_are

  first-same : first ≡ first_group g
  first-same =
      let many = ap (λ (os : List ℕ). length os) owners_are in
      let long = groups-long blocks Service (codes "servicegroups") in
      omega (arith, first_is, many, long)

  pub count-same : count ≡ node_count g
  count-same =
      let same = first-same in
      let long = named-long blocks (pairs_of (names_in blocks Service) lists) in
      omega (arith, count_is, same, long)

  owners-is : owner_edges middle owners ≡ owner_edges (length g.owners) g.owners
  owners-is = ap (λ (m : ℕ). owner_edges m owners) middle-same ∙ ap (owner_edges (length g.owners)) owners_are

  own-is : list_edges FromNames middle (length (objects_in blocks Service)) (listed_in blocks Service (codes "servicegroups") first) ≡ own_edges g
  own-is =
      ap (λ (m : ℕ). list_edges FromNames m (length (objects_in blocks Service)) (listed_in blocks Service (codes "servicegroups") first)) middle-same
      ∙ ap (λ (n : ℕ). list_edges FromNames (length g.owners) n (listed_in blocks Service (codes "servicegroups") first)) (sym (groups-long blocks Service (codes "servicegroups")))
      ∙ ap (λ (f : ℕ). list_edges FromNames (length g.owners) (length g.own_groups) (listed_in blocks Service (codes "servicegroups") f)) first-same

  subgroups-is : list_edges ToNames first (length (objects_in blocks ServiceGroup)) (listed_in blocks ServiceGroup (codes "servicegroup_members") first) ≡ subgroup_edges g
  subgroups-is =
      ap (λ (f : ℕ). list_edges ToNames f (length (objects_in blocks ServiceGroup)) (listed_in blocks ServiceGroup (codes "servicegroup_members") f)) first-same
      ∙ ap (λ (n : ℕ). list_edges ToNames (first_group g) n (listed_in blocks ServiceGroup (codes "servicegroup_members") (first_group g)))
      (sym (named-long blocks (pairs_of (names_in blocks Service) lists)))

  named-edges-is : list_edges ToNames first (length (objects_in blocks ServiceGroup)) (λ group. get_or (named_in blocks services) group []) ≡ named_edges g
  named-edges-is =
      ap (λ (ps : List Pair). list_edges ToNames first (length (objects_in blocks ServiceGroup)) (λ group. get_or (named_in blocks ps) group [])) services_are
      ∙ ap (λ (f : ℕ). list_edges ToNames f (length (objects_in blocks ServiceGroup)) (λ group. get_or g.named group [])) first-same
      ∙ ap (λ (n : ℕ). list_edges ToNames (first_group g) n (λ group. get_or g.named group [])) (sym (named-long blocks (pairs_of (names_in blocks Service) lists)))

  module _ (are : AreHostLists blocks (objects_in blocks Service) lists) (none one : List Edge) (empty : none ≡ []) (owned : one ≡ none ++ owner_edges middle owners) where
    one-is : one ≡ owner_edges (length g.owners) g.owners
    one-is = owned ∙ ap (λ (es : List Edge). es ++ owner_edges middle owners) empty ∙ owners-is

    inside : (edges : List Edge) → All (IsWithin (node_count g)) edges → All (IsWithin count) edges
    inside edges within = subst (λ (n : ℕ). All (IsWithin n) edges) (sym count-same) within

    pub owners-below : All (IsWithin count) one
    owners-below = inside one (subst (λ (es : List Edge). All (IsWithin (node_count g)) es) (sym one-is) (owners-inside g (grouping-well blocks lists are)))

    pub all-lead : (two three four : List Edge) (m l next : ℕ)
        → LeadOver count (one ++ list_edges FromNames middle (length (objects_in blocks Service)) (listed_in blocks Service (codes "servicegroups") first)) m two
        → LeadOver m (two ++ list_edges ToNames first (length (objects_in blocks ServiceGroup)) (listed_in blocks ServiceGroup (codes "servicegroup_members") first)) l three
        → LeadOver l (three ++ list_edges ToNames first (length (objects_in blocks ServiceGroup)) (λ group. get_or (named_in blocks services) group [])) next four
        → LeadOver count (edges_in g) next four
    unfolding edges_in
    all-lead two three four m l next own subgroups named =
        let well = grouping-well blocks lists are in
        let of_owners = owner_edges (length g.owners) g.owners in
        lead-on count l next (of_owners ++ own_edges g ++ subgroup_edges g) (named_edges g) three four
        (lead-on count m l (of_owners ++ own_edges g) (subgroup_edges g) two three
        (subst (λ (es : List Edge). LeadOver count (es ++ own_edges g) m two) one-is (subst (λ (es : List Edge). LeadOver count (one ++ es) m two) own-is own))
        (inside (subgroup_edges g) (subgroups-inside g well))
        (subst (λ (es : List Edge). LeadOver m (two ++ es) l three) subgroups-is subgroups))
        (inside (named_edges g) (named-inside g well))
        (subst (λ (es : List Edge). LeadOver l (three ++ es) next four) named-edges-is named)

pub members-within : (blocks : List Block) (lists : List (List ℕ)) (group service : ℕ) → IsMember (grouping blocks lists) group service → service < length (pairs_of (names_in blocks Service) lists)
members-within blocks lists group service (last, reaches, inl named) = named-within blocks (pairs_of (names_in blocks Service) lists) last service named
members-within blocks lists group service (last, reaches, inr (block, is, named)) =
    let low = place-there (owners_of lists) service block is in
    let long = owners-long (names_in blocks Service) lists in
    omega (arith, low, long)

-- how many nodes there are
pub count-is : (blocks : List Block) (lists : List (List ℕ)) (owners : List ℕ) → owners ≡ owners_of lists
    → first_group (grouping blocks lists) + length (named_in blocks (pairs_of (names_in blocks Service) lists)) ≡ length owners + length (objects_in blocks Service) + length (objects_in blocks ServiceGroup)
count-is blocks lists owners are =
    let count = ap (λ (os : List ℕ). length os) are in
    let blocks_long = groups-long blocks Service (codes "servicegroups") in
    let named_long = named-long blocks (pairs_of (names_in blocks Service) lists) in
    omega (arith, count, blocks_long, named_long)

-- ---- what is kept

pub kept-are : (templates blocks : List Block) (groups : ObjectsOf) (lists : List (List ℕ)) (owners : List ℕ) (services first searched : ℕ) (graph : List (List ℕ))
    → blocks ≡ templates → groups ≡ record { blocks = templates; kind = ServiceGroup } → AreHostLists templates (objects_in templates Service) lists
    → owners ≡ owners_of lists → services ≡ length owners → first ≡ length owners + length (objects_in templates Service)
    → IsKeptOf (grouping templates lists) graph → length graph < 2 ^ 32 → searched ≡ length graph → AreServiceGroups blocks groups services first graph searched
kept-are templates blocks groups lists owners services first searched graph same groups_are are owners_are services_are first_is has few searched_is =
    subst (λ (bs : List Block). AreServiceGroups bs groups services first graph searched) (sym same) (record {
      group_table = groups_are;
      has_nodes = λ other given. subst (λ (ls : List (List ℕ)). AreNodes (grouping templates ls) services first graph) (hosts-one templates (objects_in templates Service) lists other are given) nodes;
      count = (let all = has.count in omega (arith, all, blocks_long, named_long, count, first_is));
      few = few;
      has_search = searched_is;
    })
  where
    count : length owners ≡ length (owners_of lists)
    count = ap (λ (os : List ℕ). length os) owners_are

    blocks_long : length (groups_in templates Service (codes "servicegroups")) ≡ length (objects_in templates Service)
    blocks_long = groups-long templates Service (codes "servicegroups")

    named_long : length (named_in templates (pairs_of (names_in templates Service) lists)) ≡ length (objects_in templates ServiceGroup)
    named_long = named-long templates (pairs_of (names_in templates Service) lists)

    nodes : AreNodes (grouping templates lists) services first graph
    nodes = record {
      services_are = omega (arith, services_are, count);
      first_is = omega (arith, first_is, count, blocks_long);
      graph_is = has;
    }

-- ---- the graph as it is kept

pub leads-to_members : (blocks : List Block) (lists : List (List ℕ)) (graph : List (List ℕ)) → AreHostLists blocks (objects_in blocks Service) lists → IsKeptOf (grouping blocks lists) graph
    → LeadsToMembers blocks lists graph
leads-to_members blocks lists graph are has =
    let g = grouping blocks lists in
    let well = grouping-well blocks lists are in
    let long : length (names_in blocks ServiceGroup) ≡ length g.named = names-long blocks ServiceGroup ∙ sym (named-long blocks (pairs_of (names_in blocks Service) lists)) in
    let owned : length g.owners ≡ length (pairs_of (names_in blocks Service) lists) = owners-long (names_in blocks Service) lists in
    record {
      count = (let all = has.count in omega (arith, all, long));
      services = (let all = has.count in omega (arith, all, owned));
      groups = λ group service low there.
          let same = (has.graph_is (omega (arith, low, long))).same (first_group g + group) service (omega (arith, low, long)) (omega (arith, there, owned)) in (
            (λ reaches. member-from_reached g well service (omega (arith, there, owned)) group (omega (arith, low, long)) (same.0 reaches)),
            (λ member. same.1 (reached-from_member g well group service (omega (arith, low, long)) member).1),
          );
    }
