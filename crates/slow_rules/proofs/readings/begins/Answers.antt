use Rattle.std.proofs.Common.{rules}
use Rattle.slow_rules.proofs.readings.begins.Goals as goal

pub returns-then-is_problem_of : goal.returns-then-is_problem_of
returns-then-is_problem_of c = search rules
