-- The first node that lies on a loop.
use Rattle.std.specs.Prelude.{ℕ, ◌<◌, List}
use Rattle.graph.specs.claims.Chains.{IsOnLoop}
use Rattle.graph.specs.claims.Edges.{Leads}

-- it lies on a loop, and no node before it does
pub record IsFirstOnLoop (graph : List (List ℕ)) (p : ℕ) : Type 0 where
  pub on_loop : IsOnLoop (Leads graph) p
  pub first : (q : ℕ) → q < p → IsOnLoop (Leads graph) q → ⊥

-- no node below the number lies on one
abbrev pub HasNoLoopBelow : List (List ℕ) → (count : ℕ) → Type 0
HasNoLoopBelow graph count = (p : ℕ) → p < count → IsOnLoop (Leads graph) p → ⊥
