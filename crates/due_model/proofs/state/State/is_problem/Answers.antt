use Rattle.std.proofs.Common.{rules}
use Rattle.due_model.proofs.state.State.is_problem.Goals as goal

pub returns : goal.returns
returns c = search rules
