use Rattle.std.proofs.Common.{rules}
use Rattle.object_values.proofs.ranges.weekday_of.Goals as goal

pub returns-then-equals-2 : goal.returns-then-equals-2
returns-then-equals-2 c = search rules
