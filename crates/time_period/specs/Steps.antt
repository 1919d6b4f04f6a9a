-- Periods from which a dated line is reached: steps, one for each period that is needed, each after those that it excludes.
use Rattle.std.specs.Prelude.{◌≡◌, ℕ, ◌<◌, ◌≤◌, Bool, ◌&&◌, ◌==◌, List, [], ◌∷◌, map, All, Contains, length, slice_index_or}
use Rattle.std.specs.List.{list_any}
use Rattle.due_model.specs.declared.config.Config.{Config}
use Rattle.due_model.specs.declared.config.Dated.{Dated}
use Rattle.due_model.specs.declared.config.Period.{Period}
use Rattle.due_model.specs.declared.config.PeriodId.{PeriodId}
use Rattle.due_model.specs.declared.config.Range.{Range}
use Rattle.due_model.specs.claims.Limits.{day, max_periods}
use Rattle.due_model.specs.claims.Local.{Local}
use Rattle.due_model.specs.claims.Periods.{holds, in_range, ranges_at}
use Rattle.time_period.specs.claims.Ranges.{in_ranges}
use Rattle.time_period.specs.Ranges.{IsDay}
use Rattle.time_period.specs.claims.Steps.{Own, own_holds, step_flag}

-- another second of the same day
abbrev pub at_second : Local → ℕ → Local
at_second time second = record { day = time.day; second = second }

abbrev pub nothing : Own
nothing = record { number = 0; days = []; dated = []; excludes = [] }

-- what a list keeps at a number; nothing, if there is none
abbrev pub own_at : List Own → ℕ → Own
own_at table n = slice_index_or table n nothing

-- whether it is kept by its days alone
abbrev pub is_plain : Own → Bool
is_plain own = length own.dated == 0 && length own.excludes == 0

-- its own ranges stay as they are at a local time up to a second
pub record IsSteady (time : Local) (end : ℕ) (own : Own) : Type 0 where
  pub steady : (k : ℕ) → time.second ≤ k → k < end → own_holds own (at_second time k) ≡ own_holds own time

-- ranges in order, and few numbers
pub record IsKept (own : Own) : Type 0 where
  pub days : All IsDay own.days
  pub dated : All (λ line. IsDay line.ranges) own.dated
  pub number : own.number < max_periods
  pub excludes : All (λ excluded. excluded.0 < max_periods) own.excludes

-- ---- which periods of a configuration they are

-- whether a period of the configuration holds
abbrev pub truth : Config → ℕ → Local → Bool
truth c number time = holds (length c.periods) c.periods number time

-- a step says of its period what the definition says, where the flags do of those that it excludes
pub record IsStepOf (c : Config) (own : Own) : Type 0 where
  pub flag : (flags : ℕ → Bool) (time : Local) → time.second < day
      → ((excluded : PeriodId) → Contains own.excludes excluded
      → flags excluded.0 ≡ truth c excluded.0 time)
      → step_flag flags time own ≡ truth c own.number time

abbrev pub numbers : List Own → List ℕ
numbers owns = map (λ own. own.number) owns

-- each period that a step excludes is among those before it, or known
abbrev pub AreClosed : (known : List ℕ) → List Own → Type 0
AreClosed known [] = Unit {0}
AreClosed known (own ∷ owns) = ((excluded : PeriodId) → Contains own.excludes excluded → Contains known excluded.0)
    × AreClosed (own.number ∷ known) owns

-- steps of the configuration's periods
pub record AreSteps (c : Config) (owns : List Own) : Type 0 where
  pub each : All (IsStepOf c) owns
  pub closed : AreClosed [] owns

-- ---- how steps are made

-- two days have the same seconds, and the second is in order
pub record IsMerged (ranges merged : List Range) : Type 0 where
  pub is_day : IsDay merged
  pub alike : (second : ℕ) → second < day → in_ranges merged second ≡ in_ranges ranges second

abbrev pub AreMerged : List (List Range) → List (List Range) → Type 0
AreMerged [] [] = Unit {0}
AreMerged [] (m ∷ ms) = ⊥
AreMerged (r ∷ rs) [] = ⊥
AreMerged (r ∷ rs) (m ∷ ms) = IsMerged r m × AreMerged rs ms

-- the same of dated lines, of the same days
abbrev pub AreMergedLines : List Dated → List Dated → Type 0
AreMergedLines [] [] = Unit {0}
AreMergedLines [] (m ∷ ms) = ⊥
AreMergedLines (r ∷ rs) [] = ⊥
AreMergedLines (r ∷ rs) (m ∷ ms) =
    (m.day ≡ r.day) × IsMerged r.ranges m.ranges × AreMergedLines rs ms

-- what is kept of a period
pub record IsOwnOf (number : ℕ) (period : Period) (own : Own) : Type 0 where
  pub number_is : own.number ≡ number
  pub excludes_are : own.excludes ≡ period.excludes
  pub alike : (time : Local) → time.second < day
      → own_holds own time ≡ list_any (in_range time.second) (ranges_at period time)
