use Rattle.std.proofs.Common.{rules}
use Rattle.due_model.proofs.notice.Kind.is_recovery.Goals as goal

pub returns-in-Recovery : goal.returns-in-Recovery
returns-in-Recovery c = search rules
