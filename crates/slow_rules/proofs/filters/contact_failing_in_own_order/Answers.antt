use Rattle.std.proofs.Common.{rules}
use Rattle.slow_rules.proofs.filters.contact_failing_in_own_order.Goals as goal

pub returns-then-not-contains : goal.returns-then-not-contains
returns-then-not-contains c = search rules

pub returns-then-not-branch : goal.returns-then-not-branch
returns-then-not-branch c = search rules

pub returns-then-is_untold : goal.returns-then-is_untold
returns-then-is_untold c = search rules

pub returns-else-is_untold : goal.returns-else-is_untold
returns-else-is_untold c = search rules
