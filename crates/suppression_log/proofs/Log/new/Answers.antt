use Rattle.std.proofs.Common.{rules}
use Rattle.suppression_log.proofs.Log.new.Goals as goal

pub returns : goal.returns
returns c = search rules
