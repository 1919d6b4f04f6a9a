-- Loops of dependencies (chapter "Host and Service Dependencies").
use Rattle.std.specs.Prelude.{ℕ, List}
use Rattle.graph.specs.claims.Chains.{Reaches}
use Rattle.object_reader.specs.declared.block.Block.{Block}
use Rattle.object_dependencies.specs.claims.Pairs.{DependsAt}

-- One object depends on another, by some block; where these are the hosts of each service block.
abbrev pub Depends : List Block → (lists : List (List ℕ)) → (dependent master : ℕ) → Type 0
Depends blocks lists dependent master =
    (place : ℕ) × DependsAt blocks lists place dependent master

-- The block at the place lies on a loop: by it one object depends on another, from which a chain of dependencies leads
-- back to the first.
abbrev pub IsLoopedAt : List Block → (lists : List (List ℕ)) → (place : ℕ) → Type 0
IsLoopedAt blocks lists place = (dependent : ℕ) × (master : ℕ)
    × DependsAt blocks lists place dependent master
    × Reaches (Depends blocks lists) master dependent
