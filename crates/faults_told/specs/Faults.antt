-- What is wrong with a block that isn't what it must be.
use Rattle.std.specs.Prelude.{◌≡◌, ℕ}
use Rattle.faults_told.specs.declared.telling.Telling.{Telling}
use Rattle.object_check.specs.declared.rows.Must.{Must}
use Rattle.object_check.specs.declared.rows.Must.TheVariants.{Be, Name, HaveWholeLines, HaveDayLines}
use Rattle.object_check.specs.declared.rows.Must.TheVariants as musts
use Rattle.object_faults.specs.Columns.{fault_name}
use Rattle.object_faults.specs.claims.LoadFaults.{of_value}
use Rattle.object_faults.specs.declared.load_fault.BlockFault.{BlockFault}
use Rattle.object_faults.specs.declared.load_fault.BlockFault.TheVariants.{MissingDirective, BadRange, DatedException, UnknownName}

-- the fault of a block that isn't what it must be
abbrev pub row_fault : Must → BlockFault
row_fault (Be check) = of_value (fault_name check)
row_fault (Name named reading) = UnknownName
row_fault (musts.List side) = MissingDirective
row_fault HaveWholeLines = BadRange
row_fault HaveDayLines = DatedException

-- It is the fault of what must be so, of a value that the block at the place `holder` holds, of the block at the place `user`
-- and so many others.
pub record IsTelling (must : Must) (holder user others : ℕ) (telling : Telling) : Type 0 where
  pub fault : telling.fault ≡ row_fault must
  pub held : telling.holder ≡ holder
  pub used : telling.user ≡ user
  pub beside : telling.others ≡ others
