-- Periods as they are worked out: the ranges of each weekday, from Sunday on, or steps.
use Rattle.std.specs.Prelude.{◌≡◌, ℕ, ◌<◌, ◌≤◌, Bool, true, not, ◌&&◌, ◌||◌, cond, nat_lt, take, List, [], ◌∷◌, ◌++◌, length, All, Contains, slice_index_or}
use Rattle.std.specs.List.{list_any}
use Rattle.due_model.specs.declared.config.Config.{Config}
use Rattle.due_model.specs.declared.config.Period.{Period}
use Rattle.due_model.specs.declared.config.PeriodId.{PeriodId}
use Rattle.due_model.specs.declared.config.Range.{Range}
use Rattle.due_model.specs.claims.Accepted.{Excludes}
use Rattle.due_model.specs.claims.Limits.{day}
use Rattle.due_model.specs.claims.Periods.{holds, in_range, weekly_ranges}
pub use Rattle.time_period.specs.claims.Ranges.{in_ranges}
pub use Rattle.time_period.specs.Ranges.{IsDay}
use Rattle.time_period.specs.Needs.{picked}
use Rattle.time_period.specs.claims.Steps.{Own}
use Rattle.time_period.specs.Steps.{IsStepOf, own_at}
use Rattle.time_period.specs.claims.Days.{holds_at, Worked}

-- the period of a number, by the steps of all periods and the numbers of those that it needs
abbrev pub worked_by : ℕ → (table : List Own) → (needs : List ℕ) → Worked
worked_by number table needs =
    record { number = number; days = (own_at table number).days; steps = picked table needs }

-- each of these numbers has its step
pub record IsKeptBy (number : ℕ) (table : List Own) (needs : List ℕ) : Type 0 where
  pub own : number < length table
  pub others : All (λ n. n < length table) needs

-- ---- how it is worked out

-- what is kept of a period says of it what the definition says, and it excludes no others
pub record IsRight (c : Config) (p : ℕ) (own : Own) : Type 0 where
  pub number : own.number ≡ p
  pub step : IsStepOf c own
  pub excludes : (excluded : PeriodId) → Contains own.excludes excluded → Excludes c p excluded.0

-- what is kept of all periods of the configuration
pub record IsTable (c : Config) (table : List Own) : Type 0 where
  pub as_many : length table ≡ length c.periods
  pub right : (p : ℕ) → p < length c.periods → IsRight c p (own_at table p)

-- ---- how a day is kept, and made

-- whether some of these periods holds, of those that are done
abbrev pub holds_any : List PeriodId → (done : List Own) → (weekday second : ℕ) → Bool
holds_any excludes done weekday second = list_any
    (λ excluded. holds_at (own_at done excluded.0).days weekday second) excludes

-- ranges without those of the periods that are excluded
abbrev pub holds_without : List Range → List PeriodId → (done : List Own) → (weekday second : ℕ)
    → Bool
holds_without ranges excludes done weekday second =
    in_ranges ranges second && not (holds_any excludes done weekday second)

-- a day whose ranges hold exactly where the test passes
pub record IsDayOf (test : ℕ → Bool) (ranges : List Range) : Type 0 where
  pub is_day : IsDay ranges
  pub alike : (second : ℕ) → second < day → in_ranges ranges second ≡ test second

-- such days, of the first `count` weekdays
pub record AreWorkedOut (period : Period) (done : List Own) (count : ℕ)
    (days : List (List Range)) : Type 0 where
  pub as_many : length days ≡ count
  pub each : All IsDay days
  pub alike : (weekday second : ℕ) → weekday < count → second < day
      → holds_at days weekday second
      ≡ holds_without (weekly_ranges period weekday) period.excludes done weekday second

-- a day that is made up to a second, from which the test passes
pub record IsMade (test : ℕ → Bool) (start : ℕ) (ranges : List Range) : Type 0 where
  pub low : start ≤ day
  pub is_day : IsDay ranges
  pub before : start < day → All (λ r. r.end < start) ranges
  pub holds : start < day → test start ≡ true
  pub alike : (second : ℕ) → second < start → in_ranges ranges second ≡ test second

-- ---- how ranges are joined

-- a range is added where it isn't empty
abbrev pub closed : List Range → (start end : ℕ) → List Range
closed ranges start end = cond (nat_lt start end) (ranges ++ record { start = start; end = end } ∷ []) ranges

-- ranges in the order of their starts, joined up to a place: those that are done, and one that may yet grow
pub record IsSwept (sorted : List Range) (i start end : ℕ) (ranges : List Range) : Type 0 where
  pub low : start ≤ end
  pub high : end ≤ day
  pub is_day : IsDay ranges
  pub before : All (λ r. r.end < start) ranges
  pub later : (j : ℕ) (d : Range) → i ≤ j → j < length sorted → start ≤ (slice_index_or sorted j d).start
  pub alike : (k : ℕ) → k < day
      → (in_ranges ranges k || in_range k (record { start = start; end = end })) ≡ in_ranges (take i sorted) k
