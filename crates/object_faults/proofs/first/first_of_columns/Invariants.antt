use Rattle.std.proofs.Common.{length, take}
use Rattle.object_faults.specs.Columns.{first_at, IsFirst}
use Rattle.object_faults.proofs.first.first_of_columns.Given as goal

-- The first of the columns so far.
abbrev pub invariant-loop-column : goal.invariant-loop-column
invariant-loop-column l = IsFirst (length l.templates) (first_at l.templates (take l.column-index l.columns)) l.first
