-- Periods from which a dated line is reached: steps, one for each period that is needed, each after those that it excludes.
use Rattle.std.specs.Prelude.{ℕ, Bool, not, ◌&&◌, ◌==◌, List, [], ◌∷◌, slice_index_or, if◌then◌else◌}
use Rattle.std.specs.List.{list_any}
use Rattle.due_model.specs.declared.config.Dated.{Dated}
use Rattle.due_model.specs.declared.config.PeriodId.{PeriodId}
use Rattle.due_model.specs.declared.config.Range.{Range}
use Rattle.due_model.specs.claims.Days.{ranges_on}
use Rattle.due_model.specs.claims.Local.{Local, weekday_at}
use Rattle.due_model.specs.claims.Periods.{holds}
use Rattle.time_period.specs.claims.Ranges.{in_ranges}

-- what is kept of a period: its number, its ranges and dated lines, and the periods that it excludes
pub record Own : Type 0 where
  pub number : ℕ
  pub days : List (List Range)
  pub dated : List Dated
  pub excludes : List PeriodId

-- its own ranges hold at a local time
abbrev pub own_holds : Own → Local → Bool
own_holds own time =
    in_ranges (ranges_on (slice_index_or own.days (weekday_at time) []) own.dated time) time.second

-- whether the period holds, where these flags say it of others
abbrev pub step_flag : (ℕ → Bool) → Local → Own → Bool
step_flag flags time own =
    own_holds own time && not (list_any (λ excluded. flags excluded.0) own.excludes)

abbrev pub with_flag : (ℕ → Bool) → (number : ℕ) → Bool → ℕ → Bool
with_flag flags number flag n = if number == n then flag else flags n

-- the flags after the steps
abbrev pub flags_after : Local → List Own → (ℕ → Bool) → ℕ → Bool
flags_after time [] flags = flags
flags_after time (own ∷ owns) flags =
    flags_after time owns (with_flag flags own.number (step_flag flags time own))
