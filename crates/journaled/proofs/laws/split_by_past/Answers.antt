use Rattle.journaled.proofs.PartLaws.{are_split}
use Rattle.journaled.proofs.laws.split_by_past.Goals as goal

pub returns : goal.returns
returns c = are_split
