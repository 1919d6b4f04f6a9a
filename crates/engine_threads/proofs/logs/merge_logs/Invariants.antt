use Rattle.decider_thread.specs.claims.Order.{IsInOrder}
use Rattle.engine_threads.specs.Logs.{AreInOrder}
use Rattle.engine_threads.proofs.LogLaws.{HasBelow}
use Rattle.engine_threads.proofs.logs.merge_logs.Given as goal

abbrev pub invariant-loop-end : goal.invariant-loop-end
invariant-loop-end l = (AreInOrder l.ends → IsInOrder l.log.items) × HasBelow l.end-index l.ends l.log.items
