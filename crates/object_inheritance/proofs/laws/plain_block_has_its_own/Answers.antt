use Rattle.object_inheritance.proofs.LawLemmas.{list-plain, value-plain}
use Rattle.object_inheritance.proofs.laws.plain_block_has_its_own.Goals as goal

pub returns-clause-value : goal.returns-clause-value
returns-clause-value x blocks directive place none = value-plain blocks directive place none

pub returns-clause-list : goal.returns-clause-list
returns-clause-list x blocks directive place none = list-plain blocks directive place none
