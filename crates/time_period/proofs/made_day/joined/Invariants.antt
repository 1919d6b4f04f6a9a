use Rattle.time_period.specs.Days.{IsSwept}
use Rattle.time_period.proofs.made_day.joined.Given as goal

abbrev pub invariant-loop-range : goal.invariant-loop-range
invariant-loop-range l = IsSwept l.sorted l.range-index l.start l.end l.day.items
