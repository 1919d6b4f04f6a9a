use Rattle.object_inheritance.specs.LineSearch.{AreMarks}
use Rattle.faults_told.proofs.values_told.add_lines.Given as goal

-- The marks of the lines that were looked at.
abbrev pub invariant-loop-misfit : goal.invariant-loop-misfit
invariant-loop-misfit l = AreMarks l.templates l.marks
