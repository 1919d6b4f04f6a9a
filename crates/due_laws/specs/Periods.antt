-- When a period holds, and when it next does, without the recursion of the definitions.
use Rattle.std.specs.Prelude.{◌≡◌, ◌↔◌, ℕ, ◌+◌, ◌<◌, ◌≤◌, true, false, slice_get, All, Any, Option, Some, IsTrue, MatchOption}
use Rattle.due_model.specs.declared.config.Config.{Config}
use Rattle.due_model.specs.declared.config.Period.{Period}
use Rattle.due_model.specs.declared.config.PeriodId.{PeriodId}
use Rattle.due_model.specs.declared.zone.Zone.{Zone}
use Rattle.due_model.specs.claims.Accepted.{IsAccepted}
use Rattle.due_model.specs.claims.Local.{local}
use Rattle.due_model.specs.claims.Periods.{in_period, next_in, ranges_at}

-- some range of the local day has the local second, and none of the periods that this one excludes holds
pub record HoldsByRanges (c : Config) (zone : Zone) (t : ℕ) (period : Period) : Type 0 where
  pub in_a_range : Any (λ range. (range.start ≤ (local zone t).second)
      × ((local zone t).second < range.end)) (ranges_at period (local zone t))
  pub not_excluded : All (λ excluded. in_period c zone (Some excluded) t ≡ false) period.excludes

-- A period of an accepted configuration holds exactly there (chapter "Time Periods").
abbrev pub PeriodsHoldByRanges : Type 0
PeriodsHoldByRanges = (c : Config) (zone : Zone) (p : PeriodId) (period : Period) (t : ℕ)
    → IsAccepted c → slice_get c.periods p.0 ≡ Some period
    → IsTrue (in_period c zone (Some p) t) ↔ HoldsByRanges c zone t period

-- m is the least moment of the period from t on, and at most 400 days later
pub record IsNext (c : Config) (zone : Zone) (period : Option PeriodId) (t m : ℕ) : Type 0 where
  pub no_sooner : t ≤ m
  pub within : m ≤ t + 34_560_000
  pub holds : in_period c zone period m ≡ true
  pub least : (k : ℕ) → t ≤ k → k < m → in_period c zone period k ≡ false

-- The next moment is that one; there is none where the period doesn't hold at any moment of 400 days.
abbrev pub NextIsLeast : Type 0
NextIsLeast = (c : Config) (zone : Zone) (period : Option PeriodId) (t : ℕ)
    → MatchOption (next_in c zone period t)
    ((k : ℕ) → t ≤ k → k ≤ t + 34_560_000 → in_period c zone period k ≡ false)
    (IsNext c zone period t)
