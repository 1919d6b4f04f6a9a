use Rattle.std.proofs.Common.{rules}
use Rattle.due_model.proofs.event.DowntimeChange.kind.Goals as goal

pub returns-in-Cancelled : goal.returns-in-Cancelled
returns-in-Cancelled c = search rules
