use Rattle.std.proofs.Common.{rules}
use Rattle.due_model.proofs.rules.attempted_by_flapping.Goals as goal

pub returns-in-true-false : goal.returns-in-true-false
returns-in-true-false c = search rules
