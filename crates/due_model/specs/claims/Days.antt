-- The days that the dated lines of a time period name, and which of its lines decide (chapter "Time Periods", "Time Range
-- Exceptions").
use Rattle.std.specs.Prelude.{ℕ, suc, ◌+◌, ◌-◌, ◌*◌, Bool, not, ◌&&◌, ◌==◌, List, [], ◌∷◌, filter, flat_map, nat_le, nat_lt, ℤ, pos, negsuc, ◌+ℤ◌, unsigned_abs}
use Rattle.std.specs.List.{list_any, range_with_len}
use Rattle.jiff_core.specs.Calendar.{day_count, days_in_month}
use Rattle.jiff_tz.specs.Year.{year_of_day}
use Rattle.due_model.specs.declared.config.Dated.{Dated}
use Rattle.due_model.specs.declared.config.DayRule.{DayRule}
use Rattle.due_model.specs.declared.config.DayRule.TheVariants.{Date, OfMonth, OfEachMonth, WeekdayOfMonth, WeekdayOfEachMonth}
use Rattle.due_model.specs.declared.config.Range.{Range}
use Rattle.due_model.specs.claims.Local.{Local, weekday_at}

-- the year
abbrev pub year_at : Local → ℤ
year_at time = year_of_day time.day

-- whether the local day is this date; a date that the calendar lacks is no day, and it has the years from -9999 to 9999.
-- Between -10000-01-01, where `day_count` begins, and 1970-01-01 lie 4,371,953 days.
abbrev pub is_date : Local → (year : ℤ) → (month day : ℕ) → Bool
is_date time year month day =
    nat_le (unsigned_abs year) 9999
    && nat_le 1 month && nat_le month 12 && nat_le 1 day && nat_le day (days_in_month year month)
    && day_count year month day == unsigned_abs (time.day +ℤ pos 4_371_953)

-- a day of a month, counted from its start or, where negative, from its end; 0 where the month lacks it
abbrev pub day_from : (length : ℕ) → ℤ → ℕ
day_from length (pos day) = day
day_from length (negsuc back) = length - back

-- whether a day of a month is the n-th of its weekday there, counted from its start or, where negative, from its end
abbrev pub is_nth : (length day : ℕ) → ℤ → Bool
is_nth length day (pos n) = nat_lt (7 * n) (day + 7) && nat_le day (7 * n)
is_nth length day (negsuc n) =
    nat_lt (7 * n) (length + 1 - day) && nat_le (length + 1 - day) (7 * suc n)

-- whether the local day is that day of this month of its year
abbrev pub is_day_of : Local → (month : ℕ) → ℤ → Bool
is_day_of time month day =
    is_date time (year_at time) month (day_from (days_in_month (year_at time) month) day)

-- whether it is the n-th of its weekday in this month of its year
abbrev pub is_nth_in : Local → (month : ℕ) → ℤ → Bool
is_nth_in time month n = list_any (λ day. is_date time (year_at time) month day
    && is_nth (days_in_month (year_at time) month) day n)
    (range_with_len 1 31)

abbrev pub months : List ℕ
months = range_with_len 1 12

-- whether a line names the local day
abbrev pub names_day : Local → DayRule → Bool
names_day time (Date year month day) = is_date time year month day
names_day time (OfMonth month day) = is_day_of time month day
names_day time (OfEachMonth day) = list_any (λ month. is_day_of time month day) months
names_day time (WeekdayOfMonth weekday n month) =
    weekday_at time == weekday && is_nth_in time month n
names_day time (WeekdayOfEachMonth weekday n) =
    weekday_at time == weekday && list_any (λ month. is_nth_in time month n) months

-- the class of a line: the least decides, and a weekday's line is of class 6
abbrev pub class_of : DayRule → ℕ
class_of (Date year month day) = 1
class_of (OfMonth month day) = 2
class_of (OfEachMonth day) = 3
class_of (WeekdayOfMonth weekday n month) = 4
class_of (WeekdayOfEachMonth weekday n) = 5

-- the dated lines that name the local day
abbrev pub lines_on : List Dated → Local → List Dated
lines_on dated time = filter (λ line. names_day time line.day) dated

-- whether no other of these lines is of an earlier class
abbrev pub decides : List Dated → Dated → Bool
decides lines line = not (list_any (λ other. nat_lt (class_of other.day) (class_of line.day)) lines)

-- the ranges of the lines that decide, joined
abbrev pub decided : List Dated → List Range
decided lines = flat_map (λ line. line.ranges) (filter (decides lines) lines)

-- The ranges of a local day: those of the first class with a line for that day; its weekday's, where no dated line names it.
abbrev pub ranges_by : (weekly : List Range) → (lines : List Dated) → List Range
ranges_by weekly [] = weekly
ranges_by weekly (line ∷ lines) = decided (line ∷ lines)

abbrev pub ranges_on : (weekly : List Range) → List Dated → Local → List Range
ranges_on weekly dated time = ranges_by weekly (lines_on dated time)
