use Rattle.std.proofs.Common.{rules}
use Rattle.due_model.proofs.rules.has_come.Goals as goal

pub returns-in-Some : goal.returns-in-Some
returns-in-Some c = search rules
