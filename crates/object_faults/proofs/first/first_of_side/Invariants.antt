use Rattle.std.proofs.Common.{◌≡◌, ℕ, ◌<◌, None}
use Rattle.object_faults.specs.Columns.{side_at}
use Rattle.object_faults.proofs.first.first_of_side.Given as goal

-- None of the blocks so far lacks anything.
abbrev pub invariant-loop-place : goal.invariant-loop-place
invariant-loop-place l = (k : ℕ) → k < l.place → side_at l.fn.templates l.fn.side k ≡ None
