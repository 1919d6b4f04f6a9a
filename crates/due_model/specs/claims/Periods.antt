-- Time periods: when one holds, and when it next does.
use Rattle.std.specs.Prelude.{ℕ, zero, suc, ◌+◌, Bool, true, false, not, ◌&&◌, List, [], length, slice_get, nat_le, nat_lt, Option, Some, None}
use Rattle.std.specs.List.{list_any}
use Rattle.due_model.specs.declared.config.Config.{Config}
use Rattle.due_model.specs.declared.config.Period.{Period}
use Rattle.due_model.specs.declared.config.PeriodId.{PeriodId}
use Rattle.due_model.specs.declared.config.Range.{Range}
use Rattle.due_model.specs.declared.zone.Zone.{Zone}
use Rattle.due_model.specs.claims.Local.{Local, local, weekday_at}
use Rattle.due_model.specs.claims.Days.{ranges_on}

-- a range holds its start, and not its end
abbrev pub in_range : ℕ → Range → Bool
in_range second range = nat_le range.start second && nat_lt second range.end

-- the ranges of a weekday
abbrev pub weekly_ranges : Period → ℕ → List Range
weekly_ranges period weekday =
    elim (slice_get period.days weekday) as (λ _. List Range) [ None ↦ [] | Some ranges ↦ ranges ]

-- the ranges of a local day: those of the dated lines that decide, and the weekday's where no dated line names the day
abbrev pub ranges_at : Period → Local → List Range
ranges_at period time = ranges_on (weekly_ranges period (weekday_at time)) period.dated time

-- A period holds at a local time where some range of the day has its second, and no period that it
-- excludes holds there (chapter "Time Periods"). A chain of exclusions has at most `depth` periods.
abbrev pub holds : (depth : ℕ) → List Period → ℕ → Local → Bool
holds zero periods number time = false
holds (suc depth) periods number time = elim (slice_get periods number) as (λ _. Bool) [
  | None ↦ false
  | Some period ↦ list_any (in_range time.second) (ranges_at period time)
      && not (list_any (λ excluded. holds depth periods excluded.0 time) period.excludes)
]

-- In: whether a moment is in a period. No period is always.
abbrev pub in_period : Config → Zone → Option PeriodId → ℕ → Bool
in_period c zone None t = true
in_period c zone (Some period) t = holds (length c.periods) c.periods period.0 (local zone t)

-- how far `next` looks, in seconds: 400 days
abbrev pub reach_of_next : ℕ
reach_of_next = 34_560_000

-- the first moment from t on that passes, among `count` of them
unfoldable pub first_passing : (ℕ → Bool) → (count t : ℕ) → Option ℕ
first_passing passes zero t = None
first_passing passes (suc count) t =
    elim (passes t)
    as (λ _. Option ℕ) [ true ↦ Some t | false ↦ first_passing passes count (t + 1) ]

-- Next: the least moment of a period at or after t, at most 400 days on (chapter "Time Periods").
unfoldable pub next_in : Config → Zone → Option PeriodId → ℕ → Option ℕ
next_in c zone period t = first_passing (in_period c zone period) (reach_of_next + 1) t
