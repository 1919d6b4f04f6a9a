-- The service groups that blocks define (chapter "Object Definitions").
use Rattle.std.specs.Prelude.{◌≡◌, ℕ, ◌+◌, ◌^◌, ◌<◌, ◌≤◌, ◌↔◌, List, [], length, map, slice_index_or}
use Rattle.graph.specs.claims.Chains.{Reaches}
use Rattle.graph.specs.claims.Edges.{Leads}
use Rattle.object_groups.specs.claims.Objects.{names_in, objects_in}
use Rattle.object_groups.specs.Objects.{ObjectsOf}
use Rattle.object_listing.specs.claims.Listing.{AreThose}
use Rattle.object_reader.specs.declared.block.Block.{Block}
use Rattle.object_reader.specs.declared.block.BlockKind.{BlockKind}
use Rattle.object_reader.specs.declared.block.BlockKind.TheVariants.{Host, Service, ServiceGroup}
use Rattle.object_services.specs.claims.Limits.{AreHostLists}
use Rattle.object_services.specs.claims.Numbers.{pairs_of}
use Rattle.object_service_groups.specs.claims.Members.{Grouping, IsMember}
use Rattle.object_service_groups.specs.Nodes.{first_group, IsKeptOf}
use Rattle.object_service_groups.specs.claims.Groups.{groups_in, owners_of, grouping}

-- the nodes of these, where the node of the first group is `first`
abbrev pub listed_in : List Block → BlockKind → List ℕ → (first number : ℕ) → List ℕ
listed_in blocks kind directive first number = map (λ group. first + group)
    (slice_index_or (groups_in blocks kind directive) number [])

-- Exactly the members of the group, each once and in order, by their places among the services: these are numbered
-- by the hosts of the service blocks.
abbrev pub AreMembersOf : List Block → (group : ℕ) → (services : List ℕ) → Type 0
AreMembersOf blocks group services = (lists : List (List ℕ))
    → AreHostLists blocks (objects_in blocks Service) lists
    → AreThose (IsMember (grouping blocks lists) group) services

-- A chain leads from the node of a group to those of its members, where these are the hosts of each service block; the
-- nodes of services are their places.
pub record LeadsToMembers (blocks : List Block) (lists : List (List ℕ)) (graph : List (List ℕ))
    : Type 0 where
  pub count : first_group (grouping blocks lists) + length (names_in blocks ServiceGroup)
      ≤ length graph
  pub services : length (pairs_of (names_in blocks Service) lists) ≤ length graph
  pub groups : (group service : ℕ) → group < length (names_in blocks ServiceGroup)
      → service < length (pairs_of (names_in blocks Service) lists)
      → Reaches (Leads graph) (first_group (grouping blocks lists) + group) service
      ↔ IsMember (grouping blocks lists) group service

-- ---- how they are kept

-- the graph of the groups, with the number of the services and the node of the first group
pub record AreNodes (g : Grouping) (services first : ℕ) (graph : List (List ℕ)) : Type 0 where
  pub services_are : services ≡ length g.owners
  pub first_is : first ≡ first_group g
  pub graph_is : IsKeptOf g graph

-- these are the service blocks, their hosts, the blocks of the services, the names of the hosts, and the groups
pub record AreTables (blocks : List Block) (services : ObjectsOf) (lists : List (List ℕ))
    (owners : List ℕ) (hosts : List (List ℕ)) (groups : ObjectsOf) : Type 0 where
  pub service_blocks : services ≡ record { blocks = blocks; kind = Service }
  pub host_lists : AreHostLists blocks (objects_in blocks Service) lists
  pub owners_are : owners ≡ owners_of lists
  pub host_names : hosts ≡ names_in blocks Host
  pub group_table : groups ≡ record { blocks = blocks; kind = ServiceGroup }

-- what is kept: the groups, and a graph in which members are found, with a search for it
pub record AreServiceGroups (blocks : List Block) (groups : ObjectsOf) (services first : ℕ)
    (graph : List (List ℕ)) (searched : ℕ) : Type 0 where
  pub group_table : groups ≡ record { blocks = blocks; kind = ServiceGroup }
  pub has_nodes : (lists : List (List ℕ)) → AreHostLists blocks (objects_in blocks Service) lists
      → AreNodes (grouping blocks lists) services first graph
  pub count : first + length (objects_in blocks ServiceGroup) ≤ length graph
  pub few : length graph < 2 ^ 32
  pub has_search : searched ≡ length graph
