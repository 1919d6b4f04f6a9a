use Rattle.std.proofs.Common.{◌≡◌, ◌++◌, map}
use Rattle.object_check.specs.Misfits.{is_marked_in, misfits_at}
use Rattle.object_check.proofs.misfits.push_misfits.Given as goal

-- The rows so far.
abbrev pub invariant-loop-row : goal.invariant-loop-row
invariant-loop-row l = l.found.items ≡ l.fn.found.items
    ++ misfits_at (λ row at. is_marked_in (map (λ column. column.items) l.columns) row at) l.row l.place
