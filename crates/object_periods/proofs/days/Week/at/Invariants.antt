use Rattle.std.proofs.Common.{◌≡◌, ℕ, ◌<◌, [], get_or, length}
use Rattle.object_periods.specs.claims.Periods.{ranges_at}
use Rattle.object_values.specs.claims.Ranges.{weekdays}
use Rattle.object_periods.proofs.days.Week.at.Given as goal

-- The ranges of the weekdays so far.
abbrev pub invariant-loop-weekday : goal.invariant-loop-weekday
invariant-loop-weekday l = record {
  long : length l.days ≡ 7;
  done : (k : ℕ) → k < l.weekday → get_or l.days k [] ≡ ranges_at l.self l.place (get_or weekdays k []);
}
