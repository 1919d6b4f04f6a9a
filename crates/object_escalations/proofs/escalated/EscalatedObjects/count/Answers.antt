use Rattle.std.proofs.Common.{rules}
use Rattle.object_escalations.proofs.escalated.EscalatedObjects.count.Goals as goal

pub returns : goal.returns
returns c = search rules
