use Rattle.std.proofs.Common.{rules}
use Rattle.object_escalations.proofs.entries.escalation_of.Goals as goal

pub returns : goal.returns
returns c = search rules
