-- Time periods that never hold, and those for which the zone counts (chapter "Time Periods").
use Rattle.std.specs.Prelude.{ℕ, Bool, false, not, ◌==◌, ◌&&◌, List, [], length, is_none, Some, slice_get, if◌then◌else◌}
use Rattle.std.specs.List.{list_all, list_any}
use Rattle.std.specs.Option.{option_map_or}
use Rattle.due_model.specs.claims.Limits.{day}
use Rattle.due_model.specs.claims.Periods.{next_in}
use Rattle.due_model.specs.declared.config.Config.{Config}
use Rattle.due_model.specs.declared.config.Period.{Period}
use Rattle.due_model.specs.declared.config.Range.{Range}
use Rattle.due_model.specs.declared.zone.Zone.{Zone}
use Rattle.object_warnings.specs.Numbers.{numbers_where}

-- ---- NoZone: periods that aren't always, and no zone is given

-- whether one of the ranges is the whole day
abbrev pub has_whole_day : List Range → Bool
has_whole_day ranges = list_any (λ range. range.start == 0 && range.end == day) ranges

-- A period is always, in any zone, where each weekday has a range of the whole day, and neither a dated line nor an exclusion
-- takes anything out.
abbrev pub is_always : Period → Bool
is_always period =
    list_all has_whole_day period.days && length period.dated == 0 && length period.excludes == 0

-- the period of that number isn't
abbrev pub is_partial_at : Config → (number : ℕ) → Bool
is_partial_at c number = option_map_or (λ period. not (is_always period)) (slice_get c.periods number) false

-- those that aren't, where no zone is given
abbrev pub without_zone : Config → (given : Bool) → List ℕ
without_zone c given = if given then [] else numbers_where (is_partial_at c) (length c.periods)

-- ---- NeverHours: a period that never holds within 400 days

abbrev pub never_holds : Config → Zone → (t number : ℕ) → Bool
never_holds c zone t number = is_none (next_in c zone (Some (record { 0 = number })) t)
