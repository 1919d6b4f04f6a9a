use Rattle.std.proofs.Common.{◌≡◌, ◌<◌, [], ℕ}
use Rattle.decider.specs.claims.Outbox.{waiting_at}
use Rattle.decider_thread.proofs.seats.is_empty.Given as goal

abbrev pub invariant-loop-lane : goal.invariant-loop-lane
invariant-loop-lane l = (k : ℕ) → k < l.lane → waiting_at l.outbox k ≡ []
