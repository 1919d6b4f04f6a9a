use Rattle.std.proofs.Common.{◌≡◌, ◌++◌, ℕ, List, length}
use Rattle.std.specs.Vec.Iter.{into_iter_items}
use Rattle.due_model.specs.declared.notice.Notice.{Notice}
use Rattle.engine_threads.specs.Joins.{AreKept, ArePickedBelow, AreWorkers}
use Rattle.decider_thread.specs.Puts.{HaveEnded}
use Rattle.engine_threads.proofs.ends.join_seats.Given as goal

abbrev pub invariant-loop-seat : goal.invariant-loop-seat
invariant-loop-seat l =
    (l.place ≡ length l.yielded)
    × (l.yielded ++ into_iter_items l.seat-iterator ≡ l.fn.seats.items)
    × AreWorkers l.queues l.served.items
    × AreKept l.fn.served.items l.served.items
    × ((d : ℕ) (put : ℕ → List Notice) → HaveEnded d l.queues l.fn.seats.items put → ArePickedBelow l.place d l.queues put l.fn.served.items)
    × (length l.served.items ≡ length l.fn.served.items)
