-- Links from blocks to the nodes of a graph, and the objects of which the blocks speak by them.
use Rattle.std.specs.Prelude.{◌≡◌, ℕ, ◌+◌, ◌<◌, ◌≤◌, ◌↔◌, ◌⊎◌, List, length, map, All, Contains, Option, slice_index_or}
use Rattle.std.specs.List.{range_with_len}
use Rattle.graph.specs.declared.edges.Edge.{Edge}
use Rattle.graph.specs.claims.Chains.{Reaches}
use Rattle.graph.specs.Edges.{IsWithin}
use Rattle.graph_rules.specs.Rules.{IsOfRule}
use Rattle.object_groups.specs.ListEdges.{edge, IsEdge, LeadOver, nodes_of}
use Rattle.object_groups.specs.claims.Objects.{list_at}
use Rattle.object_reader.specs.declared.block.Block.{Block}

-- A link leads from the block at the place to a node from which a chain of edges leads to the object.
abbrev pub Speaks : (links edges : List Edge) → (place object : ℕ) → Type 0
Speaks links edges place object =
    (node : ℕ) × Contains links (edge place node) × Reaches (IsEdge edges) node object

-- the links of the blocks at the places, each to a node of its own, the first of which is `node`
abbrev pub links_to : (places : List ℕ) → (node : ℕ) → List Edge
links_to places node = map (λ k. edge (slice_index_or places k 0) (node + k))
    (range_with_len 0 (length places))

-- edges between so many nodes, of which the first are those of objects, where none of these leads to another, and links
-- from so many blocks to nodes
pub record AreLinked (blocks objects count : ℕ) (edges links : List Edge) : Type 0 where
  pub few : objects ≤ count
  pub within : All (IsWithin count) edges
  pub apart : (p object : ℕ) → p < objects → object < objects → Reaches (IsEdge edges) p object
      → p ≡ object
  pub linked : All (IsOfRule blocks count) links

-- More edges, over which the nodes that there were lead to what they did, and more links: by these each block at one of
-- the places speaks of the objects of which `Says` says so, and no block of more.
pub record AddsSpeech (blocks objects count next : ℕ) (old new links more : List Edge)
    (places : List ℕ) (Says : (place object : ℕ) → Type 0) : Type 0 where
  pub over : LeadOver count old next new
  pub linked : All (IsOfRule blocks next) more
  pub exactly : (place object : ℕ) → object < objects → Speaks more new place object
      ↔ (Speaks links old place object ⊎ (Contains places place × Says place object))

-- one of the nodes that the list of the block at the place names leads to the object
abbrev pub ByList : (names : List (List ℕ)) → List Block → List ℕ → (first : ℕ) → (all : Option ℕ)
    → List Edge → (place object : ℕ) → Type 0
ByList names blocks directive first all edges place object = (node : ℕ)
    × Contains (nodes_of names (list_at blocks directive place) first all) node
    × Reaches (IsEdge edges) node object
