use Rattle.object_inheritance.proofs.LawLemmas.{list-own, value-own}
use Rattle.object_inheritance.proofs.laws.own_value_wins.Goals as goal

pub returns-clause-value : goal.returns-clause-value
returns-clause-value x blocks directive place text gives = value-own blocks directive place text gives

pub returns-clause-list : goal.returns-clause-list
returns-clause-list x blocks directive place text gives plain = list-own blocks directive place text gives plain
