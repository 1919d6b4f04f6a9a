use Rattle.object_inheritance.specs.LineSearch.{AreMarks}
use Rattle.faults_told.proofs.values_told.add_lines_at.Given as goal

-- The marks of the lines that were looked at.
abbrev pub invariant-loop-line : goal.invariant-loop-line
invariant-loop-line l = AreMarks l.templates l.marks
