use Rattle.std.proofs.Common.{◌≡◌, ◌≢◌, ◌<◌, ℕ, slice_get, Some}
use Rattle.undelivered.specs.declared.Why.TheVariants.{NoMemory}
use Rattle.engine_threads.proofs.run.any_refused.Given as goal

abbrev pub invariant-loop-lane : goal.invariant-loop-lane
invariant-loop-lane l = (k : ℕ) (s : _) → k < l.lane-index → slice_get l.lanes k ≡ Some s → s.why ≢ NoMemory
