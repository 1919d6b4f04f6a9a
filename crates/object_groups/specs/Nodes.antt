-- The graph in which members are found. Its nodes are the objects, then the groups, then three more: one that
-- leads to all objects, one that leads to all groups, and one to which all groups lead and that leads to the
-- objects that name all groups. So a list that is `*` alone is one edge. After them come those of lists that several
-- of them have: these lead to what a list names, or what it names leads to them.
use Rattle.std.specs.Prelude.{◌≡◌, ℕ, ◌+◌, ◌<◌, ◌≤◌, ◌↔◌, List, [], ◌∷◌, ◌++◌, length, map, Contains, Some, slice_index_or}
use Rattle.std.specs.List.{flat_map, range_with_len}
use Rattle.std.specs.List.Sorted.{IsStrictlyIncreasing}
use Rattle.graph.specs.declared.edges.Edge.{Edge}
use Rattle.graph.specs.claims.Chains.{Reaches}
use Rattle.graph.specs.claims.Edges.{Leads}
use Rattle.object_groups.specs.declared.lists.Direction.TheVariants.{FromNames, ToNames}
use Rattle.object_groups.specs.ListEdges.{edge, IsEdge, list_edges, nodes_of}
use Rattle.object_groups.specs.claims.Members.{Grouping, IsMember}

-- the numbers of the nodes, where these are the names of the objects and of the groups
abbrev pub group_node : (objects : List (List ℕ)) → ℕ → ℕ
group_node objects group = length objects + group

abbrev pub all_objects : (objects groups : List (List ℕ)) → ℕ
all_objects objects groups = length objects + length groups

abbrev pub all_groups : (objects groups : List (List ℕ)) → ℕ
all_groups objects groups = length objects + length groups + 1

abbrev pub of_all_groups : (objects groups : List (List ℕ)) → ℕ
of_all_groups objects groups = length objects + length groups + 2

abbrev pub node_count : (objects groups : List (List ℕ)) → ℕ
node_count objects groups = length objects + length groups + 3

-- the edges between a group and the nodes of all groups
abbrev pub group_ends : (objects groups : List (List ℕ)) → ℕ → List Edge
group_ends objects groups group =
    edge (group_node objects group) (of_all_groups objects groups)
    ∷ edge (all_groups objects groups) (group_node objects group) ∷ []

-- those of all groups, and those from the node of all objects
abbrev pub end_edges : (objects groups : List (List ℕ)) → List Edge
end_edges objects groups =
    flat_map (group_ends objects groups) (range_with_len 0 (length groups))
    ++ map (edge (all_objects objects groups)) (range_with_len 0 (length objects))

-- the edges to the objects from the groups that they name
abbrev pub own_edges : Grouping → List Edge
own_edges g = list_edges FromNames 0 (length g.objects)
    (λ object. nodes_of g.groups (slice_index_or g.own_groups object []) (length g.objects)
    (Some (of_all_groups g.objects g.groups)))

-- the edges from the groups to the objects that they list, and to the groups
abbrev pub member_edges : Grouping → List Edge
member_edges g = list_edges ToNames (length g.objects) (length g.groups)
    (λ group. nodes_of g.objects (slice_index_or g.members group []) 0
    (Some (all_objects g.objects g.groups)))

abbrev pub subgroup_edges : Grouping → List Edge
subgroup_edges g = list_edges ToNames (length g.objects) (length g.groups)
    (λ group. nodes_of g.groups (slice_index_or g.subgroups group []) (length g.objects)
    (Some (all_groups g.objects g.groups)))

-- all edges, where no list is shared
unfoldable pub edges_in : Grouping → List Edge
edges_in g =
    end_edges g.objects g.groups ++ own_edges g ++ member_edges g ++ subgroup_edges g

-- The graph has these nodes, and among them each leads to what it would by these edges.
pub record IsGraphOf (g : Grouping) (graph : List (List ℕ)) : Type 0 where
  pub count : node_count g.objects g.groups ≤ length graph
  pub same : (from to : ℕ) → from < node_count g.objects g.groups
      → to < node_count g.objects g.groups
      → Reaches (Leads graph) from to ↔ Reaches (IsEdge (edges_in g)) from to

-- A chain leads from the node of an object to that of no other, from the node of a group to those of its members, from
-- that of all objects to each, and from that of all groups to those of the members of any.
pub record LeadsToMembers (g : Grouping) (graph : List (List ℕ)) : Type 0 where
  pub count : node_count g.objects g.groups ≤ length graph
  pub objects : (p object : ℕ) → p < length g.objects → object < length g.objects
      → Reaches (Leads graph) p object → p ≡ object
  pub groups : (p object : ℕ) → p < length g.groups → object < length g.objects
      → Reaches (Leads graph) (group_node g.objects p) object ↔ IsMember g p object
  pub every : (object : ℕ) → object < length g.objects
      → Reaches (Leads graph) (all_objects g.objects g.groups) object
  pub some : (object : ℕ) → object < length g.objects
      → Reaches (Leads graph) (all_groups g.objects g.groups) object
      ↔ ((p : ℕ) × (p < length g.groups) × IsMember g p object)

-- those of the nodes that are below the first group's, each once and in order
pub record AreBelow (objects : ℕ) (nodes found : List ℕ) : Type 0 where
  pub rising : IsStrictlyIncreasing found
  pub exactly : (k : ℕ) → Contains found k ↔ (Contains nodes k × (k < objects))
