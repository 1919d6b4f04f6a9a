use Rattle.std.proofs.Common.{rules}
use Rattle.object_values.proofs.values.entries_in.Goals as goal

pub returns-in-Some : goal.returns-in-Some
returns-in-Some c = search rules
