use Rattle.std.proofs.Common.{◌≡◌, ◌++◌, take}
use Rattle.time_period.specs.Exclusions.{edges_of}
use Rattle.time_period.proofs.compile.push_edges.Given as goal

abbrev pub invariant-loop-excluded : goal.invariant-loop-excluded
invariant-loop-excluded l = l.edges.items ≡ l.initial.edges.items ++ edges_of l.number (take l.excluded-index l.excludes)
