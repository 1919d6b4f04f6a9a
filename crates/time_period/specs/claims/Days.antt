-- Periods as they are worked out: the ranges of each weekday, from Sunday on, or steps.
use Rattle.std.specs.Prelude.{◌≡◌, ℕ, ◌<◌, Bool, List, [], ◌∷◌, length, slice_index_or}
use Rattle.due_model.specs.declared.config.Config.{Config}
use Rattle.due_model.specs.declared.config.PeriodId.{PeriodId}
use Rattle.due_model.specs.declared.config.Range.{Range}
use Rattle.due_model.specs.claims.Limits.{day}
use Rattle.due_model.specs.claims.Local.{Local, weekday_at}
use Rattle.due_model.specs.claims.Periods.{holds}
pub use Rattle.time_period.specs.claims.Ranges.{in_ranges}
pub use Rattle.time_period.specs.Ranges.{IsDay}
use Rattle.time_period.specs.claims.Steps.{flags_after, Own}

-- some range of the weekday holds the second
abbrev pub holds_at : List (List Range) → (weekday second : ℕ) → Bool
holds_at days weekday second = in_ranges (slice_index_or days weekday []) second

-- a period as it is worked out: its ranges by weekdays; or steps, where a dated line is reached
pub record Worked : Type 0 where
  pub number : ℕ
  pub days : List (List Range)
  pub steps : List Own

abbrev pub never : Worked
never = record { number = 0; days = []; steps = [] }

-- whether it holds at a local time; flags of other periods that are set before make no difference
abbrev pub holds_by : List (List Range) → ℕ → List Own → (before : ℕ → Bool) → Local → Bool
holds_by days number [] before time = holds_at days (weekday_at time) time.second
holds_by days number (own ∷ owns) before time = flags_after time (own ∷ owns) before number

abbrev pub worked_holds : Worked → (before : ℕ → Bool) → Local → Bool
worked_holds worked before time = holds_by worked.days worked.number worked.steps before time

-- a worked-out period holds where the period of the configuration does
abbrev pub IsCompiled : Config → PeriodId → Worked → Type 0
IsCompiled c period worked = (before : ℕ → Bool) (time : Local) → time.second < day
    → worked_holds worked before time ≡ holds (length c.periods) c.periods period.0 time

-- each period of the configuration has its place among these
abbrev pub AreCompiled : Config → List Worked → Type 0
AreCompiled c all =
    (length all ≡ length c.periods)
    × ((p : PeriodId) → p.0 < length c.periods → IsCompiled c p (slice_index_or all p.0 never))
