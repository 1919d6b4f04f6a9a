-- Where a fault is: which block has it.
use Rattle.std.specs.Prelude.{◌≡◌, ℕ, List, Some, slice_get}
use Rattle.object_faults.specs.declared.load_fault.BlockFault.{BlockFault}
use Rattle.object_faults.specs.declared.load_fault.LoadFault.{LoadFault}
use Rattle.object_faults.specs.declared.load_fault.LoadFault.TheVariants as load
use Rattle.object_reader.specs.declared.block.Block.{Block}

-- the fault of the block that stands at the place, with its line
pub record IsOfPlace (blocks : List Block) (place : ℕ) (fault : BlockFault)
    (found : LoadFault) : Type 0 where
  pub block : Block
  pub here : slice_get blocks place ≡ Some block
  pub is : found ≡ load.Block block.line fault

-- the fault is that of a block, and its line and itself are such as these; or memory ran out
abbrev pub IsAmong : (ℕ → BlockFault → Type 0) → LoadFault → Type 0
IsAmong Refuses (load.Block line fault) = Refuses line fault
IsAmong Refuses load.NoMemory = Unit {0}
IsAmong Refuses _ = ⊥
