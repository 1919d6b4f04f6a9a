use Rattle.std.proofs.Common.{rules}
use Rattle.due_model.proofs.rules.attempted_by_state.Goals as goal

pub returns-then-is_problem-2 : goal.returns-then-is_problem-2
returns-then-is_problem-2 c = search rules
