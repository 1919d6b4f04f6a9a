-- The first block of which something is said, by its place.
use Rattle.std.specs.Prelude.{◌≡◌, ℕ, List, Some, slice_get}
use Rattle.object_groups.specs.claims.First.{IsFirst}
use Rattle.object_reader.specs.declared.block.Block.{Block}
use Rattle.object_faults.specs.declared.load_fault.BlockFault.{BlockFault}

-- it is said of no place
abbrev pub IsNowhere : (P : ℕ → Type 0) → Type 0
IsNowhere P = (place : ℕ) → P place → ⊥

-- the line is that of the first block of whose place it is said
pub record IsFirstAt (P : ℕ → Type 0) (blocks : List Block) (line : ℕ) : Type 0 where
  pub place : ℕ
  pub block : Block
  pub here : slice_get blocks place ≡ Some block
  pub at : block.line ≡ line
  pub first : IsFirst P (Some place)

-- the line is that of the first block of which it is said, and this is the fault of such blocks
abbrev pub IsFault : (own : BlockFault) → (P : ℕ → Type 0) → List Block → ℕ → BlockFault → Type 0
IsFault own P blocks line fault = (fault ≡ own) × IsFirstAt P blocks line
