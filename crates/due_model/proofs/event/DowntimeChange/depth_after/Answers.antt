use Rattle.std.proofs.Common.{rules}
use Rattle.due_model.proofs.event.DowntimeChange.depth_after.Goals as goal

pub returns-in-End : goal.returns-in-End
returns-in-End c = search rules
