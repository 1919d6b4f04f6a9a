use Rattle.std.proofs.Common.{◌≡◌, ℕ, ◌<◌, None}
use Rattle.object_faults.specs.Columns.{date_at}
use Rattle.object_inheritance.specs.LineSearch.{AreMarks}
use Rattle.object_faults.proofs.dates.first_dated.Given as goal

-- None of the blocks so far has such a fault.
abbrev pub invariant-loop-place : goal.invariant-loop-place
invariant-loop-place l = record {
  free : (k : ℕ) → k < l.place → date_at l.templates k ≡ None;
  marks : AreMarks l.templates l.marks;
}
