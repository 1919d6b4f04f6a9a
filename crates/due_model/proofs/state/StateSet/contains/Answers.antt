use Rattle.std.proofs.Common.{rules}
use Rattle.due_model.proofs.state.StateSet.contains.Goals as goal

pub returns-in-Unknown : goal.returns-in-Unknown
returns-in-Unknown c = search rules
