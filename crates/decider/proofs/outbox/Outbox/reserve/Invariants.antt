use Rattle.std.proofs.Common.{◌≡◌, ℕ, ◌<◌, ◌≤◌, length}
use Rattle.decider.specs.claims.Outbox.{lists}
use Rattle.decider.specs.Outbox.{count_for, spare_at}
use Rattle.decider.proofs.outbox.Outbox.reserve.Given as goal

abbrev pub invariant-loop-lane : goal.invariant-loop-lane
invariant-loop-lane l = record {
  count : length (lists l.self) ≡ l.lane-end;
  waiting : lists l.self ≡ lists l.fn.self;
  room : (k : ℕ) → k < l.lane → count_for k l.entries ≤ spare_at l.self k;
}
