-- What is kept of a column while the blocks are gone through.
use Rattle.std.specs.Prelude.{◌≡◌, ℕ, List, Option, None, IfSome, slice_index_or}
use Rattle.object_reader.specs.declared.block.Block.{Block}
use Rattle.object_faults.specs.Columns.{column_fault}
use Rattle.object_faults.specs.declared.column.Column.{Column}
use Rattle.object_faults.specs.declared.first.Judged.{Judged}

-- what is kept at each place is the fault of the block there, as one of the type that is kept with it
pub record AreKnown (blocks : List Block) (column : Column) (known : List (Option Judged)) : Type 0 where
  pub each : (place : ℕ) → IfSome (slice_index_or known place None)
      (λ one. one.fault ≡ column_fault blocks place one.kind column)
