use Rattle.std.proofs.Common.{rules}
use Rattle.slow_rules.proofs.views.is_down.Goals as goal

pub returns-in-Some : goal.returns-in-Some
returns-in-Some c = search rules
