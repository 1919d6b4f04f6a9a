-- A graph is the list of each node's ends: the nodes that its edges lead to. A node is a place in that list.
use Rattle.std.specs.Prelude.{◌≡◌, ℕ, ◌^◌, ◌<◌, ◌==◌, List, [], length, map, filter, All, slice_index_or}
use Rattle.graph.specs.declared.edges.Edge.{Edge}

-- where the edges from p lead, in the edges' order
abbrev pub ends_of : List Edge → ℕ → List ℕ
ends_of edges p = map (λ edge. edge.to) (filter (λ edge. edge.from == p) edges)

-- both ends are nodes
pub record IsWithin (nodes : ℕ) (edge : Edge) : Type 0 where
  pub from : edge.from < nodes
  pub to : edge.to < nodes

-- these are all the nodes, each with the ends of its edges
pub record HasEdges (nodes : ℕ) (edges : List Edge) (graph : List (List ℕ)) : Type 0 where
  pub count : length graph ≡ nodes
  pub ends : (p : ℕ) → p < nodes → slice_index_or graph p [] ≡ ends_of edges p

-- ---- how a graph is kept

-- each end is a node
pub record IsGraph (graph : List (List ℕ)) : Type 0 where
  pub few : length graph < 2 ^ 32
  pub within : All (All (λ q. q < length graph)) graph
