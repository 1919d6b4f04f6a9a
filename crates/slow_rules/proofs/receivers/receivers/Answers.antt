use Rattle.std.proofs.Common.{rules}
use Rattle.slow_rules.proofs.receivers.receivers.Goals as goal

pub returns : goal.returns
returns c = search rules
