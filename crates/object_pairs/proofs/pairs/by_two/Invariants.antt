use Rattle.std.proofs.Common.{◌≡◌, ◌++◌, length}
use Rattle.std.specs.Option.{option_map}
use Rattle.object_pairs.specs.claims.Pairs.{by_two}
use Rattle.object_pairs.specs.Pairs.{pairs_in}
use Rattle.object_pairs.proofs.pairs.by_two.Given as goal
use Rattle.object_values.specs.Values.{texts}

-- The pairs so far, and those of the entries that are left.
abbrev pub invariant-loop-rest : goal.invariant-loop-rest
invariant-loop-rest l = by_two (texts l.entries) ≡ option_map (λ more. pairs_in l.pairs.items ++ more) (by_two (texts l.rest))

abbrev pub decreases-loop-rest : goal.decreases-loop-rest
decreases-loop-rest l = length l.rest
