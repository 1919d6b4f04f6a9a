use Rattle.std.proofs.Common.{◌≡◌, ◌++◌, length}
use Rattle.object_values.specs.claims.Values.{entries}
use Rattle.object_values.specs.Values.{texts}
use Rattle.object_values.proofs.values.entries.Given as goal

-- The entries so far, and those of the rest.
abbrev pub invariant-loop-list : goal.invariant-loop-list
invariant-loop-list l = texts l.list.items ++ entries l.rest ≡ entries l.value

abbrev pub decreases-loop-list : goal.decreases-loop-list
decreases-loop-list l = length l.rest
