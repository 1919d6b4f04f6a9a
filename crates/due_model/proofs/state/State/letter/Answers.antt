use Rattle.std.proofs.Common.{rules}
use Rattle.due_model.proofs.state.State.letter.Goals as goal

pub returns-in-Unreachable : goal.returns-in-Unreachable
returns-in-Unreachable c = search rules
