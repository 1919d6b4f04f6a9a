use Rattle.std.proofs.Common.{◌≡◌, List, map, ℕ}
use Rattle.std.specs.List.{range_with_len}
use Rattle.object_check.specs.Marks.{breaks_at}
use Rattle.object_inheritance.specs.LineSearch.{AreMarks}
use Rattle.object_check.proofs.marks.column_of_lines.Given as goal

-- The blocks so far.
abbrev pub invariant-loop-place : goal.invariant-loop-place
invariant-loop-place l = record {
  marked : (directive : List ℕ) → l.column.items ≡ map (breaks_at l.templates (record { kind = l.kind; must = l.must; directive = directive })) (range_with_len 0 l.place);
  marks : AreMarks l.templates l.marks;
}
