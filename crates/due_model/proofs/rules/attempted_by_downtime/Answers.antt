use Rattle.std.proofs.Common.{rules}
use Rattle.due_model.proofs.rules.attempted_by_downtime.Goals as goal

pub returns-then-is_down : goal.returns-then-is_down
returns-then-is_down c = search rules
