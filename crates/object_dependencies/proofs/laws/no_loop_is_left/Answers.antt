use Rattle.object_dependencies.proofs.LawLemmas.{no-loop-left}
use Rattle.object_dependencies.proofs.laws.no_loop_is_left.Goals as goal

pub returns : goal.returns
returns c = no-loop-left
