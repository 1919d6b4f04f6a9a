use Rattle.object_dependencies.proofs.LawLemmas.{dependencies-fit}
use Rattle.object_dependencies.proofs.laws.dependencies_fit.Goals as goal

pub returns : goal.returns
returns c = dependencies-fit c.spoken_are_objects.ensures
