use Rattle.std.proofs.Common.{rules}
use Rattle.object_groups.proofs.groups.tables_of.Goals as goal

pub returns : goal.returns
returns c = search rules
