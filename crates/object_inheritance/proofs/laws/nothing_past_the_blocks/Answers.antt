use Rattle.object_inheritance.proofs.InheritedLemmas.{given-past}
use Rattle.object_inheritance.proofs.laws.nothing_past_the_blocks.Goals as goal

pub returns : goal.returns
returns c = given-past
