use Rattle.std.proofs.Common.{◌≡◌}
use Rattle.object_warnings.specs.Criteria.{lacks_criteria_at}
use Rattle.object_warnings.specs.Numbers.{numbers_where}
use Rattle.object_warnings.proofs.criteria.without_criteria.Given as goal

-- Those so far.
abbrev pub invariant-loop-place : goal.invariant-loop-place
invariant-loop-place l = l.found.items ≡ numbers_where (lacks_criteria_at l.templates) l.place
