use Rattle.std.proofs.Common.{◌≡◌, ℕ, ◌-◌, ◌<◌, ◌≤◌, not}
use Rattle.object_warnings.specs.Hours.{gap_by, row_at, week}
use Rattle.object_warnings.proofs.spans.first_from.Given as goal

-- The minutes so far.
abbrev pub invariant-loop-minute : goal.invariant-loop-minute
invariant-loop-minute l = record {
  low : l.from ≤ l.minute;
  high : l.minute ≤ week;
  others : (minute : ℕ) → l.from ≤ minute → minute < l.minute → gap_by (row_at l.all minute) l.period l.hours ≡ not l.wanted;
}

abbrev pub decreases-loop-minute : goal.decreases-loop-minute
decreases-loop-minute l = week - l.minute
