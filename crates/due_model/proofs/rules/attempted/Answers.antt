use Rattle.std.proofs.Common.{rules}
use Rattle.due_model.proofs.rules.attempted.Goals as goal

pub returns-then-has_come : goal.returns-then-has_come
returns-then-has_come c = search rules
