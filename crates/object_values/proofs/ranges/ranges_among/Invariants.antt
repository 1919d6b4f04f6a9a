use Rattle.std.proofs.Common.{◌≡◌, ◌++◌, length}
use Rattle.object_values.specs.claims.Ranges.{ranges_among}
use Rattle.object_values.proofs.ranges.ranges_among.Given as goal

-- The ranges so far, and those of the rest.
abbrev pub invariant-loop-ranges : goal.invariant-loop-ranges
invariant-loop-ranges l = l.ranges.items ++ ranges_among l.rest ≡ ranges_among l.text

abbrev pub decreases-loop-ranges : goal.decreases-loop-ranges
decreases-loop-ranges l = length l.rest
