use Rattle.std.proofs.Common.{◌≡◌, length}
use Rattle.time_period.proofs.compile.nothing.Given as goal

abbrev pub invariant-loop-made : goal.invariant-loop-made
invariant-loop-made l = length l.done.items ≡ l._made
