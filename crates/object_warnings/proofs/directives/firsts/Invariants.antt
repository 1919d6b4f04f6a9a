use Rattle.std.proofs.Common.{◌≡◌, not}
use Rattle.object_groups.specs.Names.{is_doubled}
use Rattle.object_warnings.specs.Numbers.{numbers_where}
use Rattle.object_warnings.proofs.directives.firsts.Given as goal

-- Those so far.
abbrev pub invariant-loop-number : goal.invariant-loop-number
invariant-loop-number l = l.found.items ≡ numbers_where (λ number. not (is_doubled l.names number)) l.number
