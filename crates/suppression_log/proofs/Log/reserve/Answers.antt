use Rattle.std.proofs.Common.{rules}
use Rattle.suppression_log.proofs.Log.reserve.Goals as goal

pub returns-clause-room : goal.returns-clause-room
returns-clause-room c = search rules
