-- The graph in which members are found. Its nodes are the services, then the service blocks, then the groups; a
-- block leads to its services, so that a block that names a group is one edge, however many services it has. After
-- them come those of lists that several blocks or groups have: these lead to what a list names, or what it names leads
-- to them.
use Rattle.std.specs.Prelude.{ℕ, ◌+◌, ◌<◌, ◌≤◌, ◌↔◌, List, [], ◌++◌, length, map, slice_index_or}
use Rattle.std.specs.List.{range_with_len}
use Rattle.graph.specs.declared.edges.Edge.{Edge}
use Rattle.graph.specs.claims.Chains.{Reaches}
use Rattle.graph.specs.claims.Edges.{Leads}
use Rattle.object_groups.specs.declared.lists.Direction.TheVariants.{FromNames, ToNames}
use Rattle.object_groups.specs.ListEdges.{edge, IsEdge, list_edges}
pub use Rattle.object_groups.specs.Nodes.{AreBelow}
use Rattle.object_service_groups.specs.claims.Members.{Grouping}

-- the edges to the services from their blocks, where the node of the first block is `middle`
abbrev pub owner_edges : (middle : ℕ) → (owners : List ℕ) → List Edge
owner_edges middle owners = map (λ service. edge (middle + slice_index_or owners service 0) service)
    (range_with_len 0 (length owners))

-- the node of the first group, and the node after the last
abbrev pub first_group : Grouping → ℕ
first_group g = length g.owners + length g.own_groups

abbrev pub node_count : Grouping → ℕ
node_count g = first_group g + length g.named

-- the nodes of groups
abbrev pub group_nodes : Grouping → (groups : List ℕ) → List ℕ
group_nodes g groups = map (λ number. first_group g + number) groups

-- the edges to the service blocks from the groups that they name
abbrev pub own_edges : Grouping → List Edge
own_edges g = list_edges FromNames (length g.owners) (length g.own_groups)
    (λ block. group_nodes g (slice_index_or g.own_groups block []))

-- the edges from the groups to the groups that they list, and to the services that they name
abbrev pub subgroup_edges : Grouping → List Edge
subgroup_edges g = list_edges ToNames (first_group g) (length g.named)
    (λ group. group_nodes g (slice_index_or g.subgroups group []))

abbrev pub named_edges : Grouping → List Edge
named_edges g = list_edges ToNames (first_group g) (length g.named)
    (λ group. slice_index_or g.named group [])

-- all edges, where no list is shared
unfoldable pub edges_in : Grouping → List Edge
edges_in g = owner_edges (length g.owners) g.owners ++ own_edges g ++ subgroup_edges g
    ++ named_edges g

-- The graph has these nodes, and among them each leads to what it would by these edges.
pub record IsGraphOf (g : Grouping) (graph : List (List ℕ)) : Type 0 where
  pub count : node_count g ≤ length graph
  pub same : (from to : ℕ) → from < node_count g → to < node_count g
      → Reaches (Leads graph) from to ↔ Reaches (IsEdge (edges_in g)) from to

-- It has these nodes, and is such a graph if there is a group.
pub record IsKeptOf (g : Grouping) (graph : List (List ℕ)) : Type 0 where
  pub count : node_count g ≤ length graph
  pub graph_is : 0 < length g.named → IsGraphOf g graph
