-- How it is kept what blocks list on a side.
use Rattle.std.specs.Prelude.{◌≡◌, List}
use Rattle.object_reader.specs.declared.block.Block.{Block}
use Rattle.object_inheritance.specs.Columns.{Column}
use Rattle.object_faults.specs.declared.needs.Side.{Side}
use Rattle.object_faults.specs.claims.Tables.{description_directive, group_directive, host_directive, service_group_directive}

-- blocks, and a side
pub record NeedsOf : Type 0 where
  pub blocks : List Block
  pub side : Side

-- what the blocks have for the four lists of the side
pub record AreNeeds (blocks : List Block) (side : Side)
    (hosts groups descriptions service_groups : Column) : Type 0 where
  pub hosts_are : hosts ≡ record { blocks = blocks; directive = host_directive side }
  pub groups_are : groups ≡ record { blocks = blocks; directive = group_directive side }
  pub descriptions_are :
      descriptions ≡ record { blocks = blocks; directive = description_directive side }
  pub service_groups_are :
      service_groups ≡ record { blocks = blocks; directive = service_group_directive side }
