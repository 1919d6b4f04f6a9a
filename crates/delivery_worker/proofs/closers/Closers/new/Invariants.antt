use Rattle.std.proofs.Common.{◌≡◌, vec_len}
use Rattle.delivery_worker.proofs.closers.Closers.new.Given as goal

abbrev pub invariant-loop-lane : goal.invariant-loop-lane
invariant-loop-lane l = vec_len l.asked ≡ l._lane
