-- The graph with which all begins. Its nodes are the objects, by their numbers; then those of the graph of host groups,
-- where each host leads to its object; and those of the graph of service groups, where each service does.
use Rattle.std.specs.Prelude.{◌≡◌, ℕ, Bool, ◌+◌, ◌<◌, ◌≤◌, ◌↔◌, true, List, [], ◌∷◌, ◌++◌, length, map, All, slice_index_or}
use Rattle.graph.specs.declared.edges.Edge.{Edge}
use Rattle.graph.specs.claims.Chains.{Reaches}
use Rattle.graph.specs.Edges.{IsWithin}
use Rattle.object_dependencies.specs.Pairs.{BlocksOf}
use Rattle.object_dependency_loops.specs.declared.base.Firsts.{Firsts}
use Rattle.object_groups.specs.declared.groups.GroupKind.TheVariants.{HostGroups}
use Rattle.object_groups.specs.declared.lists.Direction.TheVariants.{ToNames}
use Rattle.object_groups.specs.claims.Groups.{grouping}
use Rattle.object_groups.specs.ListEdges.{IsEdge, list_edges}
use Rattle.object_groups.specs.claims.Members.{IsMember}
use Rattle.object_groups.specs.claims.Objects.{names_in}
use Rattle.object_reader.specs.declared.block.BlockKind.TheVariants.{Host, HostGroup, Service, ServiceGroup}
use Rattle.object_service_groups.specs.claims.Groups.{grouping as service_grouping}
use Rattle.object_service_groups.specs.Groups.{LeadsToMembers as LeadsToServices}
use Rattle.object_service_groups.specs.claims.Members.{IsMember as IsServiceMember}
use Rattle.object_service_groups.specs.Nodes.{first_group}
use Rattle.object_services.specs.claims.Numbers.{pairs_of}

-- how many hosts and services there are
abbrev pub host_count : BlocksOf → ℕ
host_count b = length (names_in b.blocks Host)

abbrev pub service_count : BlocksOf → ℕ
service_count b = length (pairs_of (names_in b.blocks Service) b.lists)

-- the ends of a node of a graph, whose nodes have numbers that are so many more
abbrev pub moved_ends : (by : ℕ) → (graph : List (List ℕ)) → (node : ℕ) → List ℕ
moved_ends by graph node = map (λ end. by + end) (slice_index_or graph node [])

-- the edges of such a graph
abbrev pub graph_edges : (by : ℕ) → (graph : List (List ℕ)) → List Edge
graph_edges by graph = list_edges ToNames by (length graph) (moved_ends by graph)

-- the edges from so many nodes, each to one
abbrev pub turn_edges : (from to count : ℕ) → List Edge
turn_edges from to count = list_edges ToNames from count (λ k. (to + k) ∷ [])

-- all edges, where these are the graphs of host groups and of service groups, and so many services have a node in the
-- second of them
abbrev pub base_edges : (hosts services turned : ℕ) → (host_graph service_graph : List (List ℕ))
    → List Edge
base_edges hosts services turned host_graph service_graph =
    ((graph_edges (hosts + services) host_graph ++ turn_edges (hosts + services) 0 hosts)
    ++ graph_edges (hosts + services + length host_graph) service_graph)
    ++ turn_edges (hosts + services + length host_graph) hosts turned

-- A graph with the nodes of so many services, at their places, and with the node of the first service group. Where nodes of
-- service groups are asked for these are all services, and it leads from the groups to their members.
pub record AreServiceNodes (b : BlocksOf) (has_groups : Bool) (graph : List (List ℕ)) (services first : ℕ)
    : Type 0 where
  pub few : services ≤ service_count b
  pub services_within : services ≤ length graph
  pub first_within : first ≤ length graph
  pub all : has_groups ≡ true → services ≡ service_count b
  pub first_is : has_groups ≡ true → first ≡ first_group (service_grouping b.blocks b.lists)
  pub leads : has_groups ≡ true → LeadsToServices b.blocks b.lists graph

-- Among so many nodes there are those of the objects, of which none leads to another; those of the hosts, each of which
-- leads to its object; those of all hosts, of the host groups, of all host groups and, where there are some, of the service
-- groups, each of which leads to the objects that it stands for; where services are numbered after the hosts.
pub record IsBase (b : BlocksOf) (firsts : Firsts) (count : ℕ) (edges : List Edge) : Type 0 where
  pub objects_are : firsts.objects ≡ host_count b + service_count b
  pub few : firsts.objects ≤ count
  pub hosts_few : firsts.hosts + host_count b ≤ count
  pub all_hosts_few : firsts.all_hosts < count
  pub groups_few : firsts.host_groups + length (names_in b.blocks HostGroup) ≤ count
  pub all_groups_few : firsts.all_groups < count
  pub service_groups_few : firsts.has_groups ≡ true
      → firsts.service_groups + length (names_in b.blocks ServiceGroup) ≤ count
  pub within : All (IsWithin count) edges
  pub object : (p object : ℕ) → p < firsts.objects → object < firsts.objects
      → Reaches (IsEdge edges) p object → p ≡ object
  pub host : (k object : ℕ) → k < host_count b → object < firsts.objects
      → Reaches (IsEdge edges) (firsts.hosts + k) object ↔ (k ≡ object)
  pub all_hosts : (object : ℕ) → object < firsts.objects
      → Reaches (IsEdge edges) firsts.all_hosts object ↔ (object < host_count b)
  pub host_group : (group object : ℕ) → group < length (names_in b.blocks HostGroup)
      → object < firsts.objects
      → Reaches (IsEdge edges) (firsts.host_groups + group) object
      ↔ ((object < host_count b) × IsMember (grouping b.blocks HostGroups) group object)
  pub all_groups : (object : ℕ) → object < firsts.objects
      → Reaches (IsEdge edges) firsts.all_groups object
      ↔ ((object < host_count b) × ((group : ℕ)
      × (group < length (names_in b.blocks HostGroup))
      × IsMember (grouping b.blocks HostGroups) group object))
  pub service_group : firsts.has_groups ≡ true → (group object : ℕ)
      → group < length (names_in b.blocks ServiceGroup) → object < firsts.objects
      → Reaches (IsEdge edges) (firsts.service_groups + group) object
      ↔ ((service : ℕ) × (service < service_count b) × (object ≡ host_count b + service)
      × IsServiceMember (service_grouping b.blocks b.lists) group service)
