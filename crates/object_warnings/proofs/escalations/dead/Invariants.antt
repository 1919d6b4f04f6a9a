use Rattle.std.proofs.Common.{◌≡◌}
use Rattle.object_warnings.specs.Escalations.{is_dead_at}
use Rattle.object_warnings.specs.Numbers.{numbers_where}
use Rattle.object_warnings.proofs.escalations.dead.Given as goal

-- Those so far.
abbrev pub invariant-loop-place : goal.invariant-loop-place
invariant-loop-place l = l.found.items ≡ numbers_where (is_dead_at l.config) l.place
