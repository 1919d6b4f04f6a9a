use Rattle.std.proofs.Common.{rules}
use Rattle.due_model.proofs.proper.has_object.Goals as goal

pub returns : goal.returns
returns c = search rules
