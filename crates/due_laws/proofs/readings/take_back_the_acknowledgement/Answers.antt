use Rattle.due_laws.proofs.Removals.{removal_ends, removal_is_ready}
use Rattle.due_laws.proofs.readings.take_back_the_acknowledgement.Goals as goal

pub returns-clause-ends : goal.returns-clause-ends
returns-clause-ends c = removal_ends

pub returns-clause-ready : goal.returns-clause-ready
returns-clause-ready c = removal_is_ready
