-- An order of a graph's nodes in which every edge leads forward.
use Rattle.std.specs.Prelude.{ℕ, ◌<◌, ◌≢◌, List, length, All, AllPairs, Contains, slice_index}
use Rattle.graph.specs.claims.Chains.{IsOnLoop}
use Rattle.graph.specs.claims.Edges.{Leads}

-- each node once, and every edge leads from an earlier place to a later one
pub record IsOrder (graph : List (List ℕ)) (order : List ℕ) : Type 0 where
  pub each : (p : ℕ) → p < length graph → Contains order p
  pub within : All (λ p. p < length graph) order
  pub once : AllPairs (λ p q. p ≢ q) order
  pub forward : (i j : ℕ) → i < length order → j < length order
      → Leads graph (slice_index order i) (slice_index order j) → i < j

-- some node lies on a loop
abbrev pub HasLoop : List (List ℕ) → Type 0
HasLoop graph = (p : ℕ) × (p < length graph) × IsOnLoop (Leads graph) p
