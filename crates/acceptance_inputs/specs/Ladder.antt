-- Configurations whose order shows that nothing loops.
use Rattle.std.specs.Prelude.{◌≡◌, ℕ, ◌<◌, ◌≤◌, List, length, slice_get, All, Some}
use Rattle.due_model.specs.declared.config.Config.{Config}
use Rattle.due_model.specs.declared.config.Dependency.{Dependency}
use Rattle.due_model.specs.declared.config.Period.{Period}
use Rattle.due_model.specs.claims.Accepted.{HasObject, HasPeriod, RangeFits}
use Rattle.due_model.specs.claims.Limits.{max_objects, max_contacts, max_lanes, max_periods, max_escalations, max_dependencies}

-- no more than there may be
pub record IsFew (c : Config) : Type 0 where
  pub objects : length c.objects ≤ max_objects
  pub contacts : length c.contacts ≤ max_contacts
  pub lanes : length c.lanes ≤ max_lanes

pub record IsFewBesides (c : Config) : Type 0 where
  pub periods : length c.periods ≤ max_periods
  pub escalations : length c.escalations ≤ max_escalations
  pub dependencies : length c.dependencies ≤ max_dependencies

-- a period that may stand at this place
pub record IsStep (place : ℕ) (period : Period) : Type 0 where
  pub week : length period.days ≡ 7
  pub ranges : All (All RangeFits) period.days
  pub dated : All (λ line. All RangeFits line.ranges) period.dated
  pub excludes : All (λ excluded. excluded.0 < place) period.excludes

-- each period may stand at its place: it excludes earlier ones alone
abbrev pub IsLadder : List Period → Type 0
IsLadder periods =
    (place : ℕ) (period : Period) → slice_get periods place ≡ Some period → IsStep place period

-- a dependency on an earlier object
pub record IsFall (c : Config) (d : Dependency) : Type 0 where
  pub dependent : HasObject c d.dependent.0
  pub earlier : d.master.0 < d.dependent.0
  pub period : HasPeriod c d.period
