use Rattle.problem_count.proofs.AttemptLaws.{counts_are_few, counts_within_are_few}
use Rattle.problem_count.proofs.laws.count_few.Goals as goal

pub returns-clause-after : goal.returns-clause-after
returns-clause-after c = counts_are_few

pub returns-clause-within : goal.returns-clause-within
returns-clause-within c = counts_within_are_few
