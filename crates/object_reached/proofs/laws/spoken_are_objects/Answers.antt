use Rattle.object_reached.proofs.ReachedLemmas.{spoken-are-objects}
use Rattle.object_reached.proofs.laws.spoken_are_objects.Goals as goal

pub returns : goal.returns
returns c = spoken-are-objects c.listed_are_objects.ensures c.members_are_services.ensures
