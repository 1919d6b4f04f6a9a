use Rattle.std.proofs.Common.{◌≡◌, ℕ, ◌<◌, ◌≤◌, All, length, take}
use Rattle.due_model.specs.claims.Limits.{day, max_periods}
use Rattle.day_rules.specs.Dates.{shown}
use Rattle.time_period.specs.Flags.{flag_at}
use Rattle.time_period.specs.Needs.{picked}
use Rattle.time_period.specs.claims.Steps.{flags_after}
use Rattle.time_period.specs.Steps.{IsSteady}
use Rattle.time_period.proofs.compiled.run.Given as goal

-- The flags after the steps so far.
abbrev pub invariant-loop-number : goal.invariant-loop-number
invariant-loop-number l = record {
  long : length l.flags ≡ max_periods;
  flags : (n : ℕ) → flag_at l.flags n ≡ flags_after (shown l.time) (picked l.table (take l.number-index l.needs)) (flag_at l.initial.flags) n;
  later : (shown l.time).second < l.end;
  high : l.end ≤ day;
  steady : All (IsSteady (shown l.time) l.end) (picked l.table (take l.number-index l.needs));
}
