use Rattle.time_period.specs.Days.{AreWorkedOut}
use Rattle.time_period.proofs.compile.without_excluded.Given as goal

abbrev pub invariant-loop-weekday : goal.invariant-loop-weekday
invariant-loop-weekday l = AreWorkedOut l.period l.done l.weekday l.days.items
