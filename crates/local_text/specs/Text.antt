-- The text of a moment, as a zone's clock and calendar show it.
use Rattle.std.specs.Prelude.{ℕ, ◌+◌, ◌/◌, ◌%◌, ◌^◌, ◌==◌, nat_lt, ℤ, pos, negsuc, ◌+ℤ◌, ◌-ℤ◌, ◌*ℤ◌, unsigned_abs, List, [], ◌∷◌, ◌++◌, codes, decimal, if◌then◌else◌}
use Rattle.due_model.specs.claims.Local.{local}
use Rattle.due_model.specs.declared.zone.Zone.{Zone}
use Rattle.local_text.specs.Calendar.{CivilDate, date_of}

-- the last two decimal digits of a number
abbrev pub two : ℕ → List ℕ
two n = (48 + n / 10 % 10) ∷ (48 + n % 10) ∷ []

-- a date, by its numbers: 2026-11-29
unfoldable pub numbers_text : (year month day : ℕ) → List ℕ
numbers_text year month day =
    two (year / 100) ++ two year ++ codes "-" ++ two month ++ codes "-" ++ two day

abbrev pub date_text : CivilDate → List ℕ
date_text d = numbers_text (unsigned_abs d.year) d.month d.day

-- a time of the day, by its second: 13:09:17
abbrev pub clock_text : ℕ → List ℕ
clock_text s = two (s / 3600) ++ codes ":" ++ two (s / 60 % 60) ++ codes ":" ++ two (s % 60)

-- how far a clock that shows this second of this day is ahead of UTC: what it shows, less the moment
unfoldable pub ahead_of : (day : ℤ) → (second t : ℕ) → ℤ
ahead_of day second t = ((day *ℤ pos 86400) +ℤ pos second) -ℤ pos t

abbrev pub sign_text : ℤ → List ℕ
sign_text (pos n) = codes "+"
sign_text (negsuc n) = codes "-"

abbrev pub seconds_text : ℕ → List ℕ
seconds_text s = if s == 0 then [] else codes ":" ++ two s

-- the same, with a sign, hours and minutes, and with seconds where there are some: +01:00
unfoldable pub offset_text : ℤ → List ℕ
offset_text ahead =
    sign_text ahead ++ two (unsigned_abs ahead / 3600) ++ codes ":"
    ++ two (unsigned_abs ahead / 60 % 60) ++ seconds_text (unsigned_abs ahead % 60)

-- moments before this one have a local text, in seconds since the epoch
abbrev pub texts_end : ℕ
texts_end = 2 ^ 35

-- date and time, for people: 2026-11-29 13:09:17; a moment without them in seconds
abbrev pub local_text : Zone → ℕ → List ℕ
local_text zone t =
    if nat_lt t texts_end
    then date_text (date_of (local zone t).day) ++ codes " " ++ clock_text (local zone t).second
    else decimal t

-- date, time and offset of what a clock shows at a moment, by ISO 8601
unfoldable pub iso_of : (day : ℤ) → (second t : ℕ) → List ℕ
iso_of day second t =
    date_text (date_of day) ++ codes "T" ++ clock_text second ++ offset_text (ahead_of day second t)

-- the same of a zone's clock: 2026-11-29T13:09:17+01:00; a moment without a local text in seconds
abbrev pub iso_text : Zone → ℕ → List ℕ
iso_text zone t =
    if nat_lt t texts_end then iso_of (local zone t).day (local zone t).second t else decimal t
