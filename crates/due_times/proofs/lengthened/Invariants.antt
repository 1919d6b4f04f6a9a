use Rattle.std.proofs.Common.{◌≤◌, ◌-◌, length}
use Rattle.std.specs.Prelude.{vec_len}
use Rattle.due_times.specs.Index.{SameEntries}
use Rattle.due_times.proofs.lengthened.Given as goal

abbrev pub invariant-loop-longer : goal.invariant-loop-longer
invariant-loop-longer l = SameEntries l.fn.moments l.longer.items × (length l.longer.items ≤ l.objects)

abbrev pub decreases-loop-longer : goal.decreases-loop-longer
decreases-loop-longer l = l.objects - vec_len l.longer
