use Rattle.std.proofs.Common.{rules}
use Rattle.object_faults.proofs.first.is_broken.Goals as goal

pub returns-in-Given : goal.returns-in-Given
returns-in-Given c = search rules
