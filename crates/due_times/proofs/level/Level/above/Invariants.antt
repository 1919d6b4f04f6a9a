use Rattle.std.proofs.Common.{◌≡◌, ◌+◌, ◌*◌, ◌<◌, length, ℕ}
use Rattle.due_times.specs.claims.Index.{at}
use Rattle.due_times.specs.Index.{earlier}
use Rattle.due_times.proofs.level.Level.above.Given as goal

abbrev pub invariant-loop-place : goal.invariant-loop-place
invariant-loop-place l = record {
  count : length l.made.items ≡ l.place;
  made : (i : ℕ) → i < l.place → at l.made.items i ≡ earlier (at l.self (2 * i)) (at l.self (2 * i + 1));
}
