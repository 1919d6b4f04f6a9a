use Rattle.std.proofs.Common.{◌≡◌, ℕ, ◌<◌, Some, length, slice_index_or, true, false}
use Rattle.object_warnings.specs.Hours.{flag, row_at, week}
use Rattle.object_warnings.proofs.covered.always_of.Given as goal

-- The flags so far.
abbrev pub invariant-loop-number : goal.invariant-loop-number
invariant-loop-number l = record {
  long : length l.flags.items ≡ l.number;
  each : (k : ℕ) → k < l.number → slice_index_or l.flags.items k false ≡ true → (minute : ℕ) → minute < week → flag (row_at l.all minute) (Some (record { 0 = k })) ≡ true;
}
