use Rattle.std.proofs.Common.{rules}
use Rattle.object_escalations.proofs.given.times_of.Goals as goal

pub returns : goal.returns
returns c = search rules
