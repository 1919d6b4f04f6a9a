use Rattle.std.proofs.Common.{◌≡◌, ℕ, ◌<◌, None}
use Rattle.object_faults.specs.Columns.{fault_at}
use Rattle.object_faults.specs.Known.{AreKnown}
use Rattle.object_faults.proofs.first.first_of_column.Given as goal

-- None of the blocks so far has a fault.
abbrev pub invariant-loop-place : goal.invariant-loop-place
invariant-loop-place l = record {
  none : (k : ℕ) → k < l.place → fault_at l.fn.templates l.column k ≡ None;
  known : AreKnown l.fn.templates l.column l.known;
}
