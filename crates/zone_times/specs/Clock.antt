-- A clock that goes on, on the same day; and what it remembers of its zone.
use Rattle.std.specs.Prelude.{◌≡◌, ℕ, ◌+◌, ◌-◌, ◌<◌, ◌≤◌, ℤ, unsigned_abs}
use Rattle.due_model.specs.declared.zone.Zone.{Zone}
use Rattle.due_model.specs.claims.Local.{Local, local, offset, weekday_at}
use Rattle.zone_times.specs.declared.local.LocalTime.{LocalTime}

-- so many seconds later on the same day
abbrev pub later : Local → ℕ → Local
later time seconds = record { day = time.day; second = time.second + seconds }

-- from t on and before `end` the zone's clock goes on second by second, on the day that it shows at t
abbrev pub GoesOn : Zone → (t end : ℕ) → Type 0
GoesOn zone t end = (k : ℕ) → t ≤ k → k < end → local zone k ≡ later (local zone t) (k - t)

-- from one moment on and before another the zone's offset is this one, a small one
pub record Remembers (zone : Zone) (from until : ℕ) (kept : ℤ) : Type 0 where
  pub same : (k : ℕ) → from ≤ k → k < until → offset zone k ≡ kept
  pub small : unsigned_abs kept < 93600

-- this is what the zone's clock shows at the moment
pub record Shows (zone : Zone) (at : ℕ) (time : LocalTime) : Type 0 where
  pub day : time.day ≡ (local zone at).day
  pub weekday : time.weekday ≡ weekday_at (local zone at)
  pub second : time.second ≡ (local zone at).second
