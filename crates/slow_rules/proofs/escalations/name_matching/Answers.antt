use Rattle.std.proofs.Common.{arith}
use Rattle.std.proofs.lemmas.Grind.{common_steps}
use Rattle.slow_rules.proofs.escalations.name_matching.Goals as goal

pub returns-clause-some : goal.returns-clause-some
returns-clause-some c = grind (arith, common_steps)

pub returns-clause-named : goal.returns-clause-named
returns-clause-named c = grind (arith, common_steps)
