use Rattle.std.proofs.Common.{◌≡◌, ◌≤◌, ◌+◌, ◌-◌, ◌++◌, length, drop}
use Rattle.engine_threads.specs.Merge.{merged}
use Rattle.engine_threads.proofs.log_merge.merge_all.Given as goal

abbrev pub invariant-loop-i : goal.invariant-loop-i
invariant-loop-i l =
    (l.i ≤ length l.first)
    × (l.j ≤ length l.second)
    × (l.log.items ++ merged (drop l.i l.first) (drop l.j l.second) ≡ merged l.first l.second)

abbrev pub decreases-loop-i : goal.decreases-loop-i
decreases-loop-i l = length l.first - l.i + (length l.second - l.j)
