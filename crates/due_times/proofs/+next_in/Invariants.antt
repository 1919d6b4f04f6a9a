use Rattle.std.proofs.Common.{◌-◌, length}
use Rattle.due_times.proofs.+next_in.Given as goal

abbrev pub decreases-next_in : goal.decreases-next_in
decreases-next_in l = length l.levels.now - l.number
