use Rattle.std.proofs.Common.{[], List}
use Rattle.due_model.specs.declared.notice.Notice.{Notice}
use Rattle.decider_thread.specs.Puts.{Puts}
use Rattle.decider_thread.proofs.seats.put_end.Given as goal

abbrev pub invariant-loop : goal.invariant-loop
invariant-loop g l = (whole : List Notice) → Puts l.queue l.decider [] whole l.fn.seat.pass → Puts l.queue l.decider [] whole l.seat.pass
