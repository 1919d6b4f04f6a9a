use Rattle.std.proofs.Common.{rules}
use Rattle.due_model.proofs.notice.Kind.is_told_in_downtime.Goals as goal

pub returns-in_default : goal.returns-in_default
returns-in_default c = search rules
