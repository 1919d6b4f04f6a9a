use Rattle.std.proofs.Common.{◌≡◌}
use Rattle.object_warnings.specs.Numbers.{numbers_where}
use Rattle.object_warnings.specs.Periods.{is_partial_at}
use Rattle.object_warnings.proofs.periods.without_zone.Given as goal

-- Those so far.
abbrev pub invariant-loop-number : goal.invariant-loop-number
invariant-loop-number l = l.found.items ≡ numbers_where (is_partial_at l.config) l.number
