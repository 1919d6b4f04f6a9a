-- What a local time on the calendar shows, and which rules fit its date, by the date's numbers.
use Rattle.std.specs.Prelude.{ℕ, Bool, ◌&&◌, ◌==◌}
use Rattle.std.specs.Ordering.{int_eq}
use Rattle.jiff_core.specs.declared.civil.date.Date.{Date}
use Rattle.jiff_core.specs.Date.{epoch_day, month_length}
use Rattle.due_model.specs.declared.config.DayRule.{DayRule}
use Rattle.due_model.specs.declared.config.DayRule.TheVariants as rule
use Rattle.due_model.specs.claims.Days.{day_from, is_nth}
use Rattle.due_model.specs.claims.Local.{Local}
use Rattle.day_rules.specs.declared.calendar_time.CalendarTime.{CalendarTime}

-- the local time
abbrev pub shown : CalendarTime → Local
shown time = record { day = epoch_day time.date; second = time.second }

-- whether the rule fits the date, whose weekday this is
abbrev pub fits : Date → (weekday : ℕ) → DayRule → Bool
fits d w (rule.Date year month day) = int_eq d.year year && (d.month == month && d.day == day)
fits d w (rule.OfMonth month day) = d.month == month && d.day == day_from (month_length d) day
fits d w (rule.OfEachMonth day) = d.day == day_from (month_length d) day
fits d w (rule.WeekdayOfMonth weekday place month) =
    w == weekday && (d.month == month && is_nth (month_length d) d.day place)
fits d w (rule.WeekdayOfEachMonth weekday place) = w == weekday && is_nth (month_length d) d.day place
