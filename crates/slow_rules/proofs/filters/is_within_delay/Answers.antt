use Rattle.std.proofs.Common.{rules}
use Rattle.slow_rules.proofs.filters.is_within_delay.Goals as goal

pub returns-then-view-eq0 : goal.returns-then-view-eq0
returns-then-view-eq0 c = search rules
