use Rattle.std.proofs.Common.{◌≤◌}
use Rattle.faults_told.proofs.values_told.first_bad_part.Given as goal

-- The part begins among the bytes so far.
abbrev pub invariant-loop-at : goal.invariant-loop-at
invariant-loop-at l = l.start ≤ l.at
