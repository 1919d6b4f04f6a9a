use Rattle.object_service_groups.proofs.LawLemmas.{loop-adds_nothing}
use Rattle.object_service_groups.proofs.laws.loop_adds_nothing.Goals as goal

pub returns : goal.returns
returns c = loop-adds_nothing
