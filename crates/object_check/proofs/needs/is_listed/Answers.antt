use Rattle.std.proofs.Common.{rules}
use Rattle.object_check.proofs.needs.is_listed.Goals as goal

pub returns : goal.returns
returns c = search rules
