use Rattle.std.proofs.Common.{rules}
use Rattle.suppression_log.proofs.Log.lines.Goals as goal

pub returns : goal.returns
returns c = search rules
