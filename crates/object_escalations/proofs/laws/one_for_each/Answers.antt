use Rattle.object_escalations.proofs.LawLemmas.{one-for_each}
use Rattle.object_escalations.proofs.laws.one_for_each.Goals as goal

pub returns : goal.returns
returns c = one-for_each
