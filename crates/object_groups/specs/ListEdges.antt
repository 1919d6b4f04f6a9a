-- The edges of lists of names in a graph.
use Rattle.std.specs.Prelude.{◌≡◌, ℕ, ◌+◌, ◌<◌, ◌≤◌, ◌↔◌, List, [], ◌∷◌, ◌++◌, length, map, All, Contains, Option, None, Some, slice_get, slice_index_or, if◌then◌else◌}
use Rattle.std.specs.List.{flat_map, range_with_len}
use Rattle.std.specs.Option.{option_map_or, option_to_list}
use Rattle.graph.specs.declared.edges.Edge.{Edge}
use Rattle.graph.specs.claims.Chains.{Reaches}
use Rattle.graph.specs.Edges.{IsWithin}
use Rattle.object_groups.specs.declared.lists.Direction.{Direction}
use Rattle.object_groups.specs.declared.lists.Direction.TheVariants.{ToNames, FromNames}
use Rattle.object_groups.specs.declared.lists.ListKind.{ListKind}
use Rattle.object_groups.specs.declared.lists.ListKind.TheVariants.{All as Every, Names, Nothing}
use Rattle.object_groups.specs.declared.lists.ListNodes.{ListNodes}
use Rattle.object_groups.specs.declared.shared.Parts.{Parts}
use Rattle.object_groups.specs.declared.shared.SharedList.{SharedList}
use Rattle.object_groups.specs.claims.Names.{is_all, numbers_of}
use Rattle.object_groups.specs.claims.Objects.{list_at}
use Rattle.object_groups.specs.Shared.{nearest_at, own_part}
use Rattle.object_reader.specs.declared.block.Block.{Block}

abbrev pub edge : (from to : ℕ) → Edge
edge from to = record { from = from; to = to }

-- the edge between a list's node and that of something that the list names
abbrev pub between : Direction → (node other : ℕ) → Edge
between ToNames node other = edge node other
between FromNames node other = edge other node

-- ---- the nodes that lists name

-- the node that stands for all names, where a list that names all has one
abbrev pub node_of_all : Option ℕ → (entries : List (List ℕ)) → Option ℕ
node_of_all None entries = None
node_of_all (Some all) entries = if is_all entries then Some all else None

-- The nodes of the names that entries have, where the node of the first name is `first`: `all`, where one node
-- stands for them.
abbrev pub named : (names entries : List (List ℕ)) → (first : ℕ) → (all : Option ℕ) → List ℕ
named names entries first None = map (λ number. first + number) (numbers_of names entries)
named names entries first (Some all) = all ∷ []

-- the nodes that a list names
abbrev pub nodes_of : (names entries : List (List ℕ)) → (first : ℕ) → (all : Option ℕ) → List ℕ
nodes_of names entries first all = named names entries first (node_of_all all entries)

-- ---- whole lists

-- the edges of so many lists, where the node of the first list is `node`, and these are the nodes that each names
abbrev pub list_edges : Direction → (node count : ℕ) → (nodes : ℕ → List ℕ) → List Edge
list_edges direction node count nodes =
    flat_map (λ k. map (between direction (node + k)) (nodes k)) (range_with_len 0 count)

-- the nodes that the list of the block at one of the places names
abbrev pub nodes_at : (names : List (List ℕ)) → List Block → List ℕ → (places : List ℕ)
    → ListNodes → ℕ → List ℕ
nodes_at names blocks directive places nodes k =
    nodes_of names (list_at blocks directive (slice_index_or places k 0)) nodes.first nodes.all

-- the edges of the lists of all these blocks
abbrev pub edges_at : (names : List (List ℕ)) → List Block → List ℕ → (places : List ℕ)
    → ListNodes → List Edge
edges_at names blocks directive places nodes =
    list_edges nodes.direction nodes.node (length places)
    (nodes_at names blocks directive places nodes)

-- those are there, and some after them
pub record Begins (old new : List Edge) : Type 0 where
  pub more : List Edge
  pub are : new ≡ old ++ more

-- ---- edges that lead over other nodes

abbrev pub IsEdge : List Edge → (from to : ℕ) → Type 0
IsEdge edges from to = Contains edges (edge from to)

-- among so many nodes the edges of one list lead from each to the same nodes as those of the other
abbrev pub SameReached : (count : ℕ) → (one other : List Edge) → Type 0
SameReached count one other = (from to : ℕ) → from < count → to < count
    → Reaches (IsEdge one) from to ↔ Reaches (IsEdge other) from to

-- The edges lead from each of so many nodes to the same of these as the whole ones do, over more nodes, up to the
-- next one.
pub record LeadOver (count : ℕ) (whole : List Edge) (next : ℕ) (edges : List Edge) : Type 0 where
  pub more : count ≤ next
  pub within : All (IsWithin next) edges
  pub same : SameReached count edges whole

-- ---- lists by their parts

-- the node of the list of that number, if there is a number
abbrev pub node_before : (count : ℕ) → Option ℕ → List ℕ
node_before count before = map (λ number. count + number) (option_to_list before)

-- The nodes of a list's parts: those that its own entries name, and that of the list before them, where the node of
-- the first shared list is `count`; or the one that stands for all names.
abbrev pub part_nodes : (names entries : List (List ℕ)) → (all before : Option ℕ)
    → (first count : ℕ) → List ℕ
part_nodes names entries None before first count =
    map (λ number. first + number) (numbers_of names entries) ++ node_before count before
part_nodes names entries (Some all) before first count = all ∷ []

-- the same of the list of a block at a place that has these parts
abbrev pub nodes_by : (names : List (List ℕ)) → List Block → List ℕ → ListNodes → (place : ℕ)
    → Parts → List ℕ
nodes_by names blocks directive nodes place parts =
    part_nodes names (own_part blocks directive place parts.own)
    (node_of_all nodes.all (list_at blocks directive place)) parts.before nodes.first nodes.count

-- the same of a shared list
abbrev pub shared_nodes : (names : List (List ℕ)) → List Block → List ℕ → ListNodes → SharedList
    → List ℕ
shared_nodes names blocks directive nodes list =
    part_nodes names (nearest_at blocks directive list.place) None list.before
    nodes.first nodes.count

-- those of the list of each block, and of each shared list, by their numbers
abbrev pub top_nodes : (names : List (List ℕ)) → List Block → List ℕ → ListNodes
    → (places : List ℕ) → List Parts → ℕ → List ℕ
top_nodes names blocks directive nodes places parts k = option_map_or
    (nodes_by names blocks directive nodes (slice_index_or places k 0)) (slice_get parts k) []

abbrev pub inner_nodes : (names : List (List ℕ)) → List Block → List ℕ → ListNodes
    → List SharedList → ℕ → List ℕ
inner_nodes names blocks directive nodes lists j =
    option_map_or (shared_nodes names blocks directive nodes) (slice_get lists j) []

-- ---- what a list is

-- nothing, all names, or else
abbrev pub kind_of : List (List ℕ) → ListKind
kind_of [] = Nothing
kind_of (entry ∷ entries) = if is_all (entry ∷ entries) then Every else Names
