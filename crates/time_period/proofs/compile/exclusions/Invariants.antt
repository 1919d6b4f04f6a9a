use Rattle.std.proofs.Common.{◌≡◌, ◌++◌, drop}
use Rattle.time_period.specs.Exclusions.{exclusion_edges}
use Rattle.time_period.proofs.compile.exclusions.Given as goal

abbrev pub invariant-loop-number : goal.invariant-loop-number
invariant-loop-number l = l.edges.items ++ exclusion_edges l.number (drop l.number l.periods) ≡ exclusion_edges 0 l.periods
