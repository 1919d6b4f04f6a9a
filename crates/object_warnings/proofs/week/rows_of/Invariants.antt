use Rattle.std.proofs.Common.{◌≡◌, ◌<◌, length, map}
use Rattle.due_model.specs.declared.config.Config.{Config}
use Rattle.object_warnings.specs.Hours.{rows_upto}
use Rattle.time_period.specs.claims.Days.{AreCompiled}
use Rattle.object_warnings.proofs.week.rows_of.Given as goal

-- The rows so far.
abbrev pub invariant-loop-minute : goal.invariant-loop-minute
invariant-loop-minute l = record {
  some : 0 < l.minute;
  long : length l.rows.items ≡ l.minute;
  rows : (c : Config) → AreCompiled c l.periods → c.periods ≡ l.plain → map (λ row. row.items) l.rows.items ≡ rows_upto c l.minute;
}
