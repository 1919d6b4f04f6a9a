use Rattle.std.proofs.Common.{◌≡◌, ℕ, ◌-◌, ◌<◌, ◌≤◌}
use Rattle.due_model.specs.claims.Limits.{day}
use Rattle.time_period.specs.Days.{holds_without}
use Rattle.time_period.proofs.made_day.stays_until.Given as goal

abbrev pub invariant-loop-end : goal.invariant-loop-end
invariant-loop-end l = record {
  low : l.from ≤ l.end;
  high : l.end ≤ day;
  alike : (k : ℕ) → l.from ≤ k → k < l.end → holds_without l.own l.excludes l.done l.weekday k ≡ l.holds;
}

abbrev pub decreases-loop-end : goal.decreases-loop-end
decreases-loop-end l = day - l.end
