use Rattle.std.proofs.Common.{◌≡◌}
use Rattle.rtrb.specs.Ring.{SameProducer, sent}
use Rattle.engine_threads.proofs.signals.send.Given as goal

abbrev pub invariant-loop : goal.invariant-loop
invariant-loop g l = SameProducer l.fn.ring l.ring × (sent l.ring ≡ sent l.fn.ring)
