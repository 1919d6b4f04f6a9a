use Rattle.std.proofs.Common.{rules}
use Rattle.slow_rules.proofs.histories.retry_after.Goals as goal

pub returns-in-Period-clause-value : goal.returns-in-Period-clause-value
returns-in-Period-clause-value c = search rules
