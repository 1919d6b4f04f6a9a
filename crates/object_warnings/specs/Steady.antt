-- Moments between which no range of a weekday begins or ends (chapter "Time Periods").
use Rattle.std.specs.Prelude.{◌≡◌, ℕ, Bool, All, List}
use Rattle.std.specs.List.{list_any}
use Rattle.due_model.specs.claims.Local.{local, weekday_at}
use Rattle.due_model.specs.claims.Periods.{in_range, weekly_ranges}
use Rattle.due_model.specs.declared.config.Period.{Period}
use Rattle.due_model.specs.declared.zone.Zone.{Zone}

-- whether one of a period's ranges of the weekday has the second of the day
abbrev pub own_holds : Period → (weekday second : ℕ) → Bool
own_holds period weekday second = list_any (in_range second) (weekly_ranges period weekday)

-- they have both seconds of the weekday, or neither
abbrev pub Keeps : (weekday one other : ℕ) → Period → Type 0
Keeps weekday one other period = own_holds period weekday one ≡ own_holds period weekday other

-- Both moments are of one weekday, and each period's own ranges of it hold at both or at neither.
pub record IsSteady (periods : List Period) (zone : Zone) (one other : ℕ) : Type 0 where
  pub weekday : weekday_at (local zone one) ≡ weekday_at (local zone other)
  pub own : All (Keeps (weekday_at (local zone other)) (local zone one).second (local zone other).second) periods
