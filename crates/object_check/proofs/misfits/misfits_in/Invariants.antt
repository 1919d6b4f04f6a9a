use Rattle.std.proofs.Common.{◌≡◌, length, map}
use Rattle.object_check.specs.Misfits.{is_marked_in, misfits_in}
use Rattle.object_check.proofs.misfits.misfits_in.Given as goal

-- The blocks so far.
abbrev pub invariant-loop-place : goal.invariant-loop-place
invariant-loop-place l = l.found.items
    ≡ misfits_in (λ row at. is_marked_in (map (λ column. column.items) l.columns) row at) (length l.columns) l.place
