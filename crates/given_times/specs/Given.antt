-- What the times of a command line say.
use Rattle.std.specs.Prelude.{◌≡◌, ℕ, ◌+◌, ◌*◌, ◌<◌, ◌^◌, ℤ, pos, List, Result, Ok, Err, ◌⊎◌}
use Rattle.std.specs.Int.{int_div_euclid}
use Rattle.std.specs.Str.Parse.{digits_value, IsNumeral, without_leading_plus}
use Rattle.due_model.specs.claims.Local.{Local, local}
use Rattle.due_model.specs.declared.zone.Zone.{Zone}
use Rattle.jiff_core.specs.Calendar.{days_from_civil}
use Rattle.jiff_core.specs.declared.error.Error.{Error}
use Rattle.jiff_fmt.specs.Friendly as Friendly
use Rattle.jiff_fmt.specs.Temporal.{DateParts, TimeParts, parse_datetime, parse_timestamp}

-- the most minutes of a command line: those of a week
abbrev pub most_minutes : ℕ
most_minutes = 10080

-- what a calendar and a clock on the wall show, by a date and a time
abbrev pub shown_by : DateParts × TimeParts → Local
shown_by parts = record {
  day = days_from_civil parts.0.year parts.0.month parts.0.day;
  second = parts.1.hour * 3600 + parts.1.minute * 60 + parts.1.second;
}

-- the moment is the first at which the zone's clock shows this
pub record IsFirst (zone : Zone) (shown : Local) (moment : ℕ) : Type 0 where
  pub shows : local zone moment ≡ shown
  pub first : (k : ℕ) → k < moment → local zone k ≡ shown → ⊥

-- by a date and a time that a text says, if it says them
abbrev pub IsShown : Zone → Result (DateParts × TimeParts) Error → (moment : ℕ) → Type 0
IsShown zone (Ok parts) moment = IsFirst zone (shown_by parts) moment
IsShown zone (Err e) moment = ⊥

-- by an instant that it says, in nanoseconds, or else by its date and time
abbrev pub IsInstant : Zone → List ℕ → Result ℤ Error → (moment : ℕ) → Type 0
IsInstant zone text (Ok instant) moment = pos moment ≡ int_div_euclid instant (pos 1_000_000_000)
IsInstant zone text (Err e) moment = IsShown zone (parse_datetime text) moment

-- the text is the number, in decimal digits
abbrev pub IsSeconds : List ℕ → ℕ → Type 0
IsSeconds text number = IsNumeral 10 (without_leading_plus text)
    × (digits_value 10 (without_leading_plus text) ≡ number)

-- It is no number that eight bytes hold.
abbrev pub IsNoNumber : List ℕ → Type 0
IsNoNumber text = (number : ℕ) → IsSeconds text number → number < 2 ^ 64 → ⊥

-- The text says the moment: in seconds, or where it is no number, by ISO 8601.
abbrev pub IsMoment : Zone → List ℕ → ℕ → Type 0
IsMoment zone text moment =
    IsSeconds text moment ⊎ (IsNoNumber text × IsInstant zone text (parse_timestamp text) moment)

-- a length of so many nanoseconds has so many whole minutes
abbrev pub HasMinutes : Result ℤ Error → ℕ → Type 0
HasMinutes (Ok length) minutes = pos minutes ≡ int_div_euclid length (pos 60_000_000_000)
HasMinutes (Err e) minutes = ⊥

-- The text says a length of so many whole minutes.
abbrev pub IsMinutes : List ℕ → ℕ → Type 0
IsMinutes text minutes = HasMinutes (Friendly.parse_duration text) minutes
