use Rattle.object_unknown_services.specs.Distinct.{IsMet}
use Rattle.object_unknown_services.proofs.distinct.met_in.Given as goal

-- The blocks so far are met.
abbrev pub invariant-loop-place : goal.invariant-loop-place
invariant-loop-place l = IsMet l.naming.blocks l.naming.role l.place l.met
