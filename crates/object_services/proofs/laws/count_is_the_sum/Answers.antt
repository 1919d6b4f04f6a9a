use Rattle.object_services.proofs.LimitLaws.{count-is_sum}
use Rattle.object_services.proofs.laws.count_is_the_sum.Goals as goal

pub returns : goal.returns
returns c = count-is_sum
