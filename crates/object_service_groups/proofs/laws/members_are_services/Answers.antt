use Rattle.object_service_groups.proofs.GroupLemmas.{members-within}
use Rattle.object_service_groups.proofs.laws.members_are_services.Goals as goal

pub returns : goal.returns
returns c = members-within
