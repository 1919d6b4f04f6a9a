use Rattle.std.proofs.Common.{rules}
use Rattle.replay.proofs.replay.Goals as goal

pub returns-clause-fault : goal.returns-clause-fault
returns-clause-fault g c = search rules

pub returns-clause-sure : goal.returns-clause-sure
returns-clause-sure g c = search rules
