use Rattle.std.proofs.Common.{map, take}
use Rattle.object_check.specs.Marks.{AreColumns}
use Rattle.object_check.specs.Rows.{said_by}
use Rattle.object_check.proofs.marks.columns_of.Given as goal

-- The columns of the rows so far.
abbrev pub invariant-loop-row : goal.invariant-loop-row
invariant-loop-row l = AreColumns l.templates (map said_by (take l.row-index l.rows)) (map (λ column. column.items) l.columns.items)
