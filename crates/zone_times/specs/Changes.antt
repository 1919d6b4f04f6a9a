-- When a zone's offset changes, and up to where that is known.
use Rattle.std.specs.Prelude.{◌≡◌, ℕ, ℤ, pos, ◌*ℤ◌, Option, None, option_map}
use Rattle.jiff.specs.ZoneView.{plain_zone}
use Rattle.jiff_tz.specs.Year.{year_of_nanos}
use Rattle.jiff_tz.specs.Zone.{next_at}
use Rattle.jiff_tz.specs.Tzif as table
use Rattle.due_model.specs.declared.zone.Zone.{Zone}
use Rattle.due_model.specs.declared.zone.Zone.TheVariants.{Utc, Rules, File}

-- so many seconds, in nanoseconds
abbrev pub nanos : ℕ → ℤ
nanos t = pos t *ℤ pos 1_000_000_000

-- the instant of the zone's next change after a moment, in nanoseconds
abbrev pub next_change : Zone → ℕ → Option ℤ
next_change Utc t = None
next_change (Rules zone) t = option_map (λ x. x.0) (next_at (plain_zone zone) (nanos t))
next_change (File rules) t = option_map (λ x. x.0) (table.next_at rules (nanos t))

-- two moments in one year of UTC
abbrev pub SameYear : (t k : ℕ) → Type 0
SameYear t k = year_of_nanos (nanos k) ≡ year_of_nanos (nanos t)
