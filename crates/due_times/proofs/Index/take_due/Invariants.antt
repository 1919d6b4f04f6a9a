use Rattle.std.proofs.Common.{◌≡◌, ◌+◌, ◌%◌, ◌^◌, ◌<◌, ℕ, length}
use Rattle.due_times.specs.claims.Index.{at}
use Rattle.due_times.specs.Index.{due_count, left_at}
use Rattle.due_times.proofs.Index.take_due.Given as goal

abbrev pub invariant-loop-object : goal.invariant-loop-object
invariant-loop-object l = record {
  left : (o : ℕ) → left_at l.t (at l.self.moments o) ≡ left_at l.t (at l.fn.self.moments o);
  room : length l.self.moments ≡ length l.fn.self.moments;
  small : l.self.examined < 2 ^ 64;
  examined : (l.self.examined + due_count l.t l.self.moments) % 2 ^ 64 ≡ (l.fn.self.examined + due_count l.t l.fn.self.moments) % 2 ^ 64;
}

abbrev pub decreases-loop-object : goal.decreases-loop-object
decreases-loop-object l = due_count l.t l.self.moments
