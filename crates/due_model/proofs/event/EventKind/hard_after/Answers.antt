use Rattle.std.proofs.Common.{rules}
use Rattle.due_model.proofs.event.EventKind.hard_after.Goals as goal

pub returns-then-named-object : goal.returns-then-named-object
returns-then-named-object c = search rules

pub returns-else-named-object : goal.returns-else-named-object
returns-else-named-object c = search rules
