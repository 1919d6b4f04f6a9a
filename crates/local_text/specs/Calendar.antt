-- The date of a day number.
use Rattle.std.specs.Prelude.{ℕ, zero, suc, ◌+◌, ◌-◌, ℤ, ◌-ℤ◌, nat_le, if◌then◌else◌, unsigned_abs}
use Rattle.jiff_core.specs.Calendar.{days_from_civil, days_of_months}
use Rattle.jiff_core.specs.declared.civil.date.Date.{Date}
use Rattle.jiff_tz.specs.Year.{year_of_day}

-- a date, by its numbers
pub record CivilDate : Type 0 where
  pub year : ℤ
  pub month : ℕ
  pub day : ℕ

-- those of a date of the calendar
abbrev pub civil_date : Date → CivilDate
civil_date d = record { year = d.year; month = d.month; day = d.day }

-- the most months of a year, at most n, that are over after so many of its days
unfoldable pub months_within : ℕ → (year : ℤ) → (days : ℕ) → ℕ
months_within zero year days = 0
months_within (suc n) year days =
    if nat_le (days_of_months year (suc n)) days then suc n else months_within n year days

-- how many days of its year are over where the day begins
abbrev pub days_over : ℤ → ℕ
days_over day = unsigned_abs (day -ℤ days_from_civil (year_of_day day) 1 1)

-- the date of a day, which is 0 on 1970-01-01
unfoldable pub date_of : ℤ → CivilDate
date_of day = record {
  year = year_of_day day;
  month = months_within 11 (year_of_day day) (days_over day) + 1;
  day = days_over day
      - days_of_months (year_of_day day) (months_within 11 (year_of_day day) (days_over day)) + 1;
}
