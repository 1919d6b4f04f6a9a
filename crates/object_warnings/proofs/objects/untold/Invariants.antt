use Rattle.std.proofs.Common.{◌≡◌}
use Rattle.object_warnings.specs.Objects.{tells_nobody_at}
use Rattle.object_warnings.specs.Numbers.{numbers_where}
use Rattle.object_warnings.proofs.objects.untold.Given as goal

-- Those so far.
abbrev pub invariant-loop-number : goal.invariant-loop-number
invariant-loop-number l = l.found.items ≡ numbers_where (tells_nobody_at l.config) l.number
