use Rattle.object_periods.proofs.LawLemmas.{no-loop-left}
use Rattle.object_periods.proofs.laws.no_loop_is_left.Goals as goal

pub returns : goal.returns
returns c = no-loop-left
