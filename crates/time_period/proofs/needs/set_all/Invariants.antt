use Rattle.std.proofs.Common.{◌≡◌, ℕ, ◌⊎◌, true, length, take}
use Rattle.std.specs.Prelude.{Contains}
use Rattle.due_model.specs.declared.config.PeriodId.{PeriodId}
use Rattle.due_model.specs.claims.Limits.{max_periods}
use Rattle.time_period.specs.Flags.{flag_at}
use Rattle.time_period.proofs.needs.set_all.Given as goal

-- The flags of the periods so far.
abbrev pub invariant-loop-period : goal.invariant-loop-period
invariant-loop-period l = record {
  long : length l.flags ≡ max_periods;
  set : (period : PeriodId) → Contains (take l.period-index l.periods) period → flag_at l.flags period.0 ≡ true;
  kept : (n : ℕ) → flag_at l.initial.flags n ≡ true → flag_at l.flags n ≡ true;
  others : (n : ℕ) → flag_at l.flags n ≡ true → (flag_at l.initial.flags n ≡ true) ⊎ Contains l.periods (record { 0 = n });
}
