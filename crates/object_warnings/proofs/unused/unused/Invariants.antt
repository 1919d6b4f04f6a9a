use Rattle.std.proofs.Common.{◌≡◌}
use Rattle.object_warnings.specs.Numbers.{numbers_where}
use Rattle.object_warnings.specs.Unused.{is_unused_at}
use Rattle.object_warnings.proofs.unused.unused.Given as goal

-- Those so far.
abbrev pub invariant-loop-number : goal.invariant-loop-number
invariant-loop-number l = l.found.items ≡ numbers_where (is_unused_at l.templates l.kind) l.number
