-- What a search found, and how it is kept.
use Rattle.std.specs.Prelude.{◌≡◌, ℕ, ◌^◌, ◌<◌, ◌≤◌, ◌≢◌, ◌↔◌, ◌⊎◌, ◌++◌, List, length, take, AllPairs, Contains, slice_index}
use Rattle.graph.specs.claims.Chains.{Reaches}
use Rattle.graph.specs.claims.Edges.{Leads}

-- what a search found last, in a graph of so many nodes
pub record Found : Type 0 where
  pub nodes : ℕ
  pub found : List ℕ

-- exactly what the node reaches, each once
pub record IsReached (graph : List (List ℕ)) (from : ℕ) (found : List ℕ) : Type 0 where
  pub exactly : (q : ℕ) → Contains found q ↔ Reaches (Leads graph) from q
  pub once : AllPairs (λ p q. p ≢ q) found

-- ---- how it is kept

-- exactly what was found bears the stamp, and no mark is above it
pub record IsMarked (marks : List ℕ) (stamp : ℕ) (found : List ℕ) : Type 0 where
  pub some : 0 < stamp
  pub below : (k : ℕ) → slice_index marks k ≤ stamp
  pub marked : (k : ℕ) → slice_index marks k ≡ stamp → Contains found k
  pub stamped : (k : ℕ) → Contains found k → slice_index marks k ≡ stamp
  pub once : AllPairs (λ p q. p ≢ q) found

-- the same of what stands in the first places
pub record IsSearch (marks : List ℕ) (stamp : ℕ) (queue : List ℕ) (count : ℕ) : Type 0 where
  pub few : length marks < 2 ^ 32
  pub long : length queue ≡ length marks
  pub room : count ≤ length queue
  pub marked : IsMarked marks stamp (take count queue)

-- to what was found came, at the end, what is new among these nodes
pub record Gains (old nodes new : List ℕ) : Type 0 where
  pub front : (late : List ℕ) × (new ≡ old ++ late)
  pub only : (q : ℕ) → Contains new q → Contains old q ⊎ Contains nodes q
  pub each : (q : ℕ) → Contains nodes q → Contains new q

-- the search began there, found only what is reached, and the first `turn` nodes that it found had their turn
pub record IsTurn (graph : List (List ℕ)) (from turn : ℕ) (found : List ℕ) : Type 0 where
  pub start : Contains found from
  pub reached : (q : ℕ) → Contains found q → Reaches (Leads graph) from q
  pub seen : (k q : ℕ) → k < turn → Leads graph (slice_index found k) q → Contains found q
