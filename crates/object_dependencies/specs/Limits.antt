-- The limit of dependencies (chapter "Host and Service Dependencies").
use Rattle.std.specs.Prelude.{◌≡◌, ℕ, List, length, sum_by, Some, slice_get}
use Rattle.object_reader.specs.declared.block.Block.{Block}
use Rattle.object_services.specs.declared.services.LimitFault.{LimitFault}
use Rattle.object_services.specs.declared.services.LimitFault.TheVariants.{TooMany, NoMemory}
use Rattle.object_dependencies.specs.claims.Pairs.{ArePairsBelow, Pair}
use Rattle.object_dependencies.specs.claims.Limits.{PassesLimit}

-- The place and the line are those of the block that passes the limit.
pub record IsFirstOver (blocks : List Block) (lists : List (List ℕ)) (place line : ℕ) : Type 0 where
  pub block : Block
  pub here : slice_get blocks place ≡ Some block
  pub at : block.line ≡ line
  pub passes : PassesLimit blocks lists place

-- a refusal is that, or memory ran out
abbrev pub IsRefusal : List Block → (lists : List (List ℕ)) → LimitFault → Type 0
IsRefusal blocks lists (TooMany place line) = IsFirstOver blocks lists place line
IsRefusal blocks lists NoMemory = Unit {0}

-- ---- how it is found

-- the pairs of the blocks below the place, so many
pub record IsSoFar (blocks : List Block) (lists : List (List ℕ)) (place : ℕ)
    (parts : List (List Pair))
    (count : ℕ) : Type 0 where
  pub listed : ArePairsBelow blocks lists place parts
  pub counted : count ≡ sum_by length parts
