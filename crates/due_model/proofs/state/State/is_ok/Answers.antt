use Rattle.std.proofs.Common.{rules}
use Rattle.due_model.proofs.state.State.is_ok.Goals as goal

pub returns-in-Up : goal.returns-in-Up
returns-in-Up c = search rules
