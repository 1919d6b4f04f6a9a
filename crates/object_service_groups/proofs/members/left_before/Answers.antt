use Rattle.object_service_groups.proofs.MemberLemmas.{left-read}
use Rattle.object_service_groups.proofs.members.left_before.Goals as goal

pub returns : goal.returns
returns c wholes are = left-read wholes c.args.lefts.now c.args.before c.in_ok-before.field-0 c.in_ok-before.was are
