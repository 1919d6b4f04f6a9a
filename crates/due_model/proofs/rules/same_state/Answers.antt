use Rattle.std.proofs.Common.{rules}
use Rattle.due_model.proofs.rules.same_state.Goals as goal

pub returns : goal.returns
returns c = search rules
