use Rattle.std.proofs.Common.{rules}
use Rattle.suppression_log.proofs.Log.clear.Goals as goal

pub returns-clause-lines : goal.returns-clause-lines
returns-clause-lines c = search rules
