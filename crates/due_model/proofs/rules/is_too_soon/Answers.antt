use Rattle.std.proofs.Common.{rules}
use Rattle.due_model.proofs.rules.is_too_soon.Goals as goal

pub returns-then-same_state : goal.returns-then-same_state
returns-then-same_state c = search rules
