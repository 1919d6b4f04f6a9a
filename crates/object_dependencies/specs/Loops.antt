-- Loops of dependencies (chapter "Host and Service Dependencies").
use Rattle.std.specs.Prelude.{ℕ, ◌<◌, List}
use Rattle.object_reader.specs.declared.block.Block.{Block}
use Rattle.object_dependencies.specs.claims.Loops.{IsLoopedAt}

-- it is such a block, and none before it is
pub record IsFirstLooped (blocks : List Block) (lists : List (List ℕ)) (place : ℕ) : Type 0 where
  pub looped : IsLoopedAt blocks lists place
  pub first : (earlier : ℕ) → earlier < place → IsLoopedAt blocks lists earlier → ⊥

-- no block is
abbrev pub HasNoDependencyLoop : List Block → (lists : List (List ℕ)) → Type 0
HasNoDependencyLoop blocks lists = (place : ℕ) → IsLoopedAt blocks lists place → ⊥
