use Rattle.object_inheritance.specs.claims.Faults.{AreFreeBefore}
use Rattle.object_inheritance.proofs.templates.check_templates.Given as goal

-- None of the blocks so far has a fault.
abbrev pub invariant-loop-place : goal.invariant-loop-place
invariant-loop-place l = AreFreeBefore l.names l.place
