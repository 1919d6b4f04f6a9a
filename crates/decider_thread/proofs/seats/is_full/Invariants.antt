use Rattle.std.proofs.Common.{◌≡◌, ◌<◌, ◌+◌, drop, length, map, sum}
use Rattle.decider.specs.claims.Outbox.{lists}
use Rattle.decider_thread.specs.Puts.{waiting_count}
use Rattle.decider_thread.proofs.seats.is_full.Given as goal

abbrev pub invariant-loop-lane : goal.invariant-loop-lane
invariant-loop-lane l =
    (0 < l.room) × (waiting_count l.outbox + l.room ≡ 65536 + sum (map length (drop l.lane (lists l.outbox))))
