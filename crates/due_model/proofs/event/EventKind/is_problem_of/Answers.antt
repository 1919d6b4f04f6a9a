use Rattle.std.proofs.Common.{rules}
use Rattle.due_model.proofs.event.EventKind.is_problem_of.Goals as goal

pub returns-then-named-object : goal.returns-then-named-object
returns-then-named-object c = search rules
