use Rattle.std.proofs.Common.{◌≡◌, [], ℕ, List, length}
use Rattle.due_model.specs.declared.notice.Notice.{Notice}
use Rattle.decider_thread.specs.Puts.{ArePut}
use Rattle.decider_thread.proofs.PutLaws.{EndedBelow}
use Rattle.decider_thread.proofs.seats.put_ends.Given as goal

abbrev pub invariant-loop-place : goal.invariant-loop-place
invariant-loop-place g l =
    ((whole : ℕ → List Notice) → ArePut l.decider l.queues l.fn.seats (λ _. []) whole → EndedBelow l.decider l.queues l.seats whole l.place)
    × (length l.seats ≡ length l.fn.seats)
