use Rattle.std.proofs.Common.{rules}
use Rattle.acceptance_inputs.proofs.periods.periods.Goals as goal

pub returns-clause-accepted : goal.returns-clause-accepted
returns-clause-accepted c = search rules
