-- A graph is the list of each node's ends: the nodes that its edges lead to. A node is a place in that list.
use Rattle.std.specs.Prelude.{ℕ, List, [], Contains, slice_index_or}

-- an edge leads from p to q
abbrev pub Leads : List (List ℕ) → ℕ → ℕ → Type 0
Leads graph p q = Contains (slice_index_or graph p []) q
