use Rattle.std.proofs.Common.{◌≡◌, map}
use Rattle.std.specs.List.{range_with_len}
use Rattle.object_check.specs.Marks.{AreFound, breaks_at}
use Rattle.object_check.proofs.marks.column_of_value.Given as goal

-- The blocks so far.
abbrev pub invariant-loop-place : goal.invariant-loop-place
invariant-loop-place l = record {
  marked : l.column.items ≡ map (breaks_at l.templates (record { kind = l.kind; must = l.must; directive = l.directive })) (range_with_len 0 l.place);
  found : AreFound l.must (record { blocks = l.templates; directive = l.directive }) l.found.items;
}
