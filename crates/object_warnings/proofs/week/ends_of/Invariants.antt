use Rattle.std.proofs.Common.{◌≤◌, map}
use Rattle.object_warnings.specs.Hours.{AreEnds, week}
use Rattle.object_warnings.proofs.week.ends_of.Given as goal

-- The ends from the minute on.
abbrev pub invariant-loop-minute : goal.invariant-loop-minute
invariant-loop-minute l = record {
  within : l.minute ≤ week;
  ends : AreEnds (map (λ row. row.items) l.rows) l.minute l.ends.items;
}

abbrev pub decreases-loop-minute : goal.decreases-loop-minute
decreases-loop-minute l = l.minute
