use Rattle.std.proofs.Common.{rules}
use Rattle.object_check.proofs.needs.Needs.has_services.Goals as goal

pub returns-then-described : goal.returns-then-described
returns-then-described c = search rules
