use Rattle.std.proofs.Common.{rules}
use Rattle.object_values.proofs.values.equals.Goals as goal

pub returns : goal.returns
returns c = search rules
