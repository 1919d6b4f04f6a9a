-- The first of all faults is the one that loading answers.
use Rattle.std.specs.Prelude.{◌≡◌, List, [], ◌∷◌, None, Some, slice_get}
use Rattle.object_check.specs.declared.misfits.Misfit.{Misfit}
use Rattle.object_check.specs.declared.rows.Must.{Must}
use Rattle.object_check.specs.declared.rows.Must.TheVariants.{Be, Name, HaveWholeLines, HaveDayLines}
use Rattle.object_check.specs.declared.rows.Must.TheVariants as musts
use Rattle.object_check.specs.Rows.{Asked, value_rows}
use Rattle.object_faults.specs.Columns.{fault_name}
use Rattle.object_faults.specs.claims.Faults.{AreFree, IsFirstFault}
use Rattle.object_faults.specs.declared.fault.ValueFault.{ValueFault}
use Rattle.object_faults.specs.declared.fault.ValueFault.TheVariants.{MissingDirective, BadRange, DatedException}
use Rattle.object_groups.specs.claims.First.{IsFirst}
use Rattle.object_names.specs.claims.Unknown.{HasUnknown}
use Rattle.object_reader.specs.declared.block.Block.{Block}

-- the fault of a block that isn't what it must be by itself; names are of another pass
abbrev pub fault_by : Must → ValueFault
fault_by (Be check) = fault_name check
fault_by (Name named reading) = MissingDirective
fault_by (musts.List side) = MissingDirective
fault_by HaveWholeLines = BadRange
fault_by HaveDayLines = DatedException

-- The fault of values is the one that the pass of values answers: its block is the first with a fault, and of that block it
-- is the one that counts.
pub record IsAnswered (blocks : List Block) (misfit : Misfit) : Type 0 where
  pub row : Asked
  pub listed : slice_get value_rows misfit.row ≡ Some row
  pub block : Block
  pub here : slice_get blocks misfit.place ≡ Some block
  pub first : IsFirstFault blocks block.line (fault_by row.must)

-- There are no faults of values exactly where the pass is free, and the first is the one that it answers.
abbrev pub AreAnswered : List Block → List Misfit → Type 0
AreAnswered blocks [] = AreFree blocks
AreAnswered blocks (misfit ∷ misfits) = IsAnswered blocks misfit

-- The same of names: no block names anything unknown, or the first of the faults is of the first block that does.
abbrev pub AreAnsweredNames : List Block → List Misfit → Type 0
AreAnsweredNames blocks [] = IsFirst (HasUnknown blocks) None
AreAnsweredNames blocks (misfit ∷ misfits) = IsFirst (HasUnknown blocks) (Some misfit.place)
