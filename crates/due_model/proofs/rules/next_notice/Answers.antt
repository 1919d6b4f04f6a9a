use Rattle.std.proofs.Common.{rules}
use Rattle.due_model.proofs.rules.next_notice.Goals as goal

pub returns-then-gap-eq0 : goal.returns-then-gap-eq0
returns-then-gap-eq0 c = search rules
