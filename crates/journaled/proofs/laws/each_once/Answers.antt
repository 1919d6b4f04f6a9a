use Rattle.journaled.proofs.RunLaws.{once_of_each}
use Rattle.journaled.proofs.laws.each_once.Goals as goal

pub returns : goal.returns
returns c = once_of_each
