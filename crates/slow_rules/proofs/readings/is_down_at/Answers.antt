use Rattle.std.proofs.Common.{rules}
use Rattle.slow_rules.proofs.readings.is_down_at.Goals as goal

pub returns : goal.returns
returns c = search rules
