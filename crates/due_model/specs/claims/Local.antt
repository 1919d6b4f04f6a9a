-- Local time: the day and the second of the day of an instant, in a zone.
use Rattle.std.specs.Prelude.{ℕ, ℤ, pos, ◌+ℤ◌, ◌*ℤ◌, unsigned_abs}
use Rattle.std.specs.Int.{int_div_euclid, int_rem_euclid}
use Rattle.jiff_tz.specs.Zone.{offset_at}
use Rattle.jiff.specs.ZoneView.{plain_zone}
use Rattle.jiff_tz.specs.Tzif as table
use Rattle.due_model.specs.declared.zone.Zone.{Zone}
use Rattle.due_model.specs.declared.zone.Zone.TheVariants.{Utc, Rules, File}

-- how many nanoseconds a second has
abbrev nanoseconds : ℤ
nanoseconds = pos 1_000_000_000

-- how far the zone's clock is ahead of UTC at an instant, in seconds
abbrev pub offset : Zone → ℕ → ℤ
offset Utc t = pos 0
offset (Rules zone) t = offset_at (plain_zone zone) (pos t *ℤ nanoseconds)
offset (File rules) t = (table.offset_at rules (pos t *ℤ nanoseconds)).seconds

-- the seconds that the zone's clock shows, since its own midnight of 1970-01-01
abbrev pub local_second : Zone → ℕ → ℤ
local_second zone t = pos t +ℤ offset zone t

-- what a calendar and a clock on the wall show: the day, which is 0 on 1970-01-01, and the second of the day
pub record Local : Type 0 where
  pub day : ℤ
  pub second : ℕ

-- the weekday from Sunday, which is 0; 1970-01-01 was a Thursday
abbrev pub weekday_at : Local → ℕ
weekday_at time = unsigned_abs (int_rem_euclid (time.day +ℤ pos 4) (pos 7))

-- Local time, of which a period speaks (chapter "Time Periods").
abbrev pub local : Zone → ℕ → Local
local zone t = record {
  day = int_div_euclid (local_second zone t) (pos 86400);
  second = unsigned_abs (int_rem_euclid (local_second zone t) (pos 86400));
}
