use Rattle.std.proofs.Common.{◌≡◌, ℕ, List, length}
use Rattle.due_model.specs.declared.notice.Notice.{Notice}
use Rattle.decider.specs.claims.Outbox.{lists, waiting_at}
use Rattle.decider_thread.specs.Puts.{ArePut}
use Rattle.decider_thread.proofs.seats.put_all.Given as goal

abbrev pub invariant-loop : goal.invariant-loop
invariant-loop g l =
    ((whole : ℕ → List Notice) → ArePut l.decider l.queues l.fn.seats (waiting_at l.fn.outbox) whole → ArePut l.decider l.queues l.seats (waiting_at l.outbox) whole)
    × (length l.seats ≡ length l.fn.seats)
    × (length (lists l.outbox) ≡ length (lists l.fn.outbox))
