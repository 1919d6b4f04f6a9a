use Rattle.std.proofs.Common.{rules}
use Rattle.due_model.proofs.notice.Kind.number_after.Goals as goal

pub returns-in-Problem : goal.returns-in-Problem
returns-in-Problem c = search rules
