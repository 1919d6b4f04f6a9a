use Rattle.object_inheritance.specs.LineSearch.{AreMarks}
use Rattle.object_periods.proofs.PeriodLemmas.{ArePeriods}
use Rattle.object_periods.proofs.periods.periods_of.Given as goal

-- The periods of the blocks so far.
abbrev pub invariant-loop-number : goal.invariant-loop-number
invariant-loop-number l = record {
  periods : ArePeriods l.templates l.number l.periods.items;
  marks : AreMarks l.templates l.marks;
}
