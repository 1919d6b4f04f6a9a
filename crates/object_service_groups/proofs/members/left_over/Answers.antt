use Rattle.object_service_groups.proofs.MemberLemmas.{left-none, left-some}
use Rattle.object_service_groups.proofs.members.left_over.Goals as goal

pub returns-then-even-entries : goal.returns-then-even-entries
returns-then-even-entries c = left-some c.args.entries.now _ c.if-even-entries.true

pub returns-else-even-entries : goal.returns-else-even-entries
returns-else-even-entries c = left-none c.args.entries.now c.if-even-entries.false
