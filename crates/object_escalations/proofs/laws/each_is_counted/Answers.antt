use Rattle.object_escalations.proofs.LawLemmas.{count-is_sum}
use Rattle.object_escalations.proofs.laws.each_is_counted.Goals as goal

pub returns : goal.returns
returns c = count-is_sum
