use Rattle.std.proofs.Common.{rules}
use Rattle.object_contacts.proofs.lanes.mark_used_once.Goals as goal

pub returns-then-is_marked-clause-marked : goal.returns-then-is_marked-clause-marked
returns-then-is_marked-clause-marked c = search rules
