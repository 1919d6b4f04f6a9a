use Rattle.object_escalations.proofs.LawLemmas.{escalated-objects}
use Rattle.object_escalations.proofs.laws.escalated_are_objects.Goals as goal

pub returns : goal.returns
returns c = escalated-objects c.spoken_are_objects.ensures
