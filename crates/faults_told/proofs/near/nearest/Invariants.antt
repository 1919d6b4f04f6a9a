use Rattle.std.specs.Prelude.{Contains, IfSome}
use Rattle.faults_told.proofs.near.nearest.Given as goal

-- What is found is one of the names.
abbrev pub invariant-loop-number : goal.invariant-loop-number
invariant-loop-number l = IfSome l.found (Contains l.names)
