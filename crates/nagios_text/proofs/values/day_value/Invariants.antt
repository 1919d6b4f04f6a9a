use Rattle.std.proofs.Common.{◌≡◌, ◌++◌, length}
use Rattle.nagios_text.specs.claims.Values.{day_value}
use Rattle.nagios_text.proofs.values.day_value.Given as goal

-- The ranges so far, and those of the rest.
abbrev pub invariant-loop-value : goal.invariant-loop-value
invariant-loop-value l = l.value.items ++ day_value l.rest ≡ day_value l.ranges

abbrev pub decreases-loop-value : goal.decreases-loop-value
decreases-loop-value l = length l.rest
