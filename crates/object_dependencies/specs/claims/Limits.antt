-- The limit of dependencies (chapter "Host and Service Dependencies").
use Rattle.std.specs.Prelude.{◌≡◌, ℕ, ◌+◌, ◌<◌, ◌≤◌, List, length, sum_by}
use Rattle.due_model.specs.claims.Limits.{max_dependencies}
use Rattle.object_reader.specs.declared.block.Block.{Block}
use Rattle.object_dependencies.specs.claims.Pairs.{ArePairsBelow, Pair}

-- The blocks below a place give so many dependencies: each block one for each of its pairs.
abbrev pub GiveDependencies : List Block → (lists : List (List ℕ)) → (place count : ℕ) → Type 0
GiveDependencies blocks lists place count = (parts : List (List Pair))
    × ArePairsBelow blocks lists place parts × (count ≡ sum_by length parts)

-- The blocks pass the limit at the place: with the block there they give more dependencies than fit, and without
-- it they don't.
pub record PassesLimit (blocks : List Block) (lists : List (List ℕ)) (place : ℕ) : Type 0 where
  pub within : place < length blocks
  pub before : (count : ℕ) × GiveDependencies blocks lists place count × (count ≤ max_dependencies)
  pub over : (count : ℕ) × GiveDependencies blocks lists (place + 1) count
      × (max_dependencies < count)
