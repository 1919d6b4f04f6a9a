use Rattle.std.proofs.Common.{◌≡◌, length}
use Rattle.engine.proofs.logs.kept_logs.Given as goal

abbrev pub invariant-loop-decider : goal.invariant-loop-decider
invariant-loop-decider l = length l.logs.items ≡ l._decider
