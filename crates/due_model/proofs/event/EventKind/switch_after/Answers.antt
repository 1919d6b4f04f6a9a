use Rattle.std.proofs.Common.{rules}
use Rattle.due_model.proofs.event.EventKind.switch_after.Goals as goal

pub returns-in-Program : goal.returns-in-Program
returns-in-Program c = search rules
