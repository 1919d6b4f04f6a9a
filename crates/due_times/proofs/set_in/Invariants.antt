use Rattle.due_times.proofs.Mending.{IsMendedUpTo}
use Rattle.due_times.proofs.set_in.Given as goal

abbrev pub invariant-loop-number : goal.invariant-loop-number
invariant-loop-number l = IsMendedUpTo l.fn.levels.items l.fn.place l.fn.moment l.number l.levels.items l.spot l.value
