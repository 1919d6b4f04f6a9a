use Rattle.std.proofs.Common.{◌≡◌, List, map, ℕ}
use Rattle.std.specs.List.{range_with_len}
use Rattle.object_check.specs.Marks.{breaks_at}
use Rattle.object_check.specs.declared.rows.Must.TheVariants as musts
use Rattle.object_check.proofs.marks.column_of_side.Given as goal

-- The blocks so far.
abbrev pub invariant-loop-place : goal.invariant-loop-place
invariant-loop-place l = (directive : List ℕ)
    → l.column.items ≡ map (breaks_at l.templates (record { kind = l.kind; must = musts.List l.fn.side; directive = directive })) (range_with_len 0 l.place)
