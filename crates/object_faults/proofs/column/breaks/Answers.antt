use Rattle.std.proofs.Common.{rules}
use Rattle.object_faults.proofs.column.breaks.Goals as goal

pub returns-in-Number : goal.returns-in-Number
returns-in-Number c = search rules
