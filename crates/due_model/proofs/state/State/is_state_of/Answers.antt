use Rattle.std.proofs.Common.{rules}
use Rattle.due_model.proofs.state.State.is_state_of.Goals as goal

pub returns-in-Pending : goal.returns-in-Pending
returns-in-Pending c = search rules
