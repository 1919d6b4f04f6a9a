-- Which configurations are accepted.
use Rattle.std.specs.Prelude.{◌≡◌, ℕ, ◌<◌, ◌≤◌, List, length, slice_get, All, Contains, Option, Some, None, IfSome}
pub use Rattle.graph.specs.claims.Chains.{Chain, HasNoLoop}
use Rattle.due_model.specs.declared.config.Config.{Config}
use Rattle.due_model.specs.declared.config.Contact.{Contact}
use Rattle.due_model.specs.declared.config.ContactId.{ContactId}
use Rattle.due_model.specs.declared.config.Dependency.{Dependency}
use Rattle.due_model.specs.declared.config.Escalation.{Escalation}
use Rattle.due_model.specs.declared.config.Object.{Object}
use Rattle.due_model.specs.declared.config.Period.{Period}
use Rattle.due_model.specs.declared.config.PeriodId.{PeriodId}
use Rattle.due_model.specs.declared.config.Range.{Range}
use Rattle.due_model.specs.declared.config.Rights.{Rights}
use Rattle.due_model.specs.claims.Limits.{max_objects, max_contacts, max_lanes, max_periods, max_escalations, max_dependencies, max_number, day}

abbrev pub HasObject : Config → ℕ → Type 0
HasObject c o = o < length c.objects

abbrev pub HasPeriod : Config → Option PeriodId → Type 0
HasPeriod c period = IfSome period (λ p. p.0 < length c.periods)

abbrev pub HasContacts : Config → List ContactId → Type 0
HasContacts c contacts = All (λ k. k.0 < length c.contacts) contacts

-- object h is a host
abbrev pub IsHost : Config → ℕ → Type 0
IsHost c h = (host : Object) × (slice_get c.objects h ≡ Some host) × (host.host ≡ None)

pub record ObjectFits (c : Config) (object : Object) : Type 0 where
  pub host : IfSome object.host (λ h. IsHost c h.0)
  pub period : HasPeriod c object.period
  pub interval : object.interval ≤ max_number
  pub delay : object.delay ≤ max_number
  pub contacts : HasContacts c object.contacts

pub record RightsFit (c : Config) (rights : Rights) : Type 0 where
  pub period : HasPeriod c rights.period
  pub lanes : All (λ lane. lane.0 < length c.lanes) rights.lanes

pub record ContactFits (c : Config) (contact : Contact) : Type 0 where
  pub hosts : RightsFit c contact.hosts
  pub services : RightsFit c contact.services

-- a range starts no later than it ends, and lies within a day
pub record RangeFits (range : Range) : Type 0 where
  pub ordered : range.start ≤ range.end
  pub in_day : range.end ≤ day

pub record PeriodFits (c : Config) (period : Period) : Type 0 where
  pub week : length period.days ≡ 7
  pub ranges : All (All RangeFits) period.days
  pub dated : All (λ line. All RangeFits line.ranges) period.dated
  pub excludes : All (λ p. p.0 < length c.periods) period.excludes

pub record EscalationFits (c : Config) (e : Escalation) : Type 0 where
  pub object : HasObject c e.object.0
  pub first : e.first ≤ max_number
  pub last : e.last ≤ max_number
  pub interval : e.interval ≤ max_number
  pub period : HasPeriod c e.period
  pub contacts : HasContacts c e.contacts

pub record DependencyFits (c : Config) (d : Dependency) : Type 0 where
  pub dependent : HasObject c d.dependent.0
  pub master : HasObject c d.master.0
  pub period : HasPeriod c d.period

-- period p excludes period q
abbrev pub Excludes : Config → ℕ → ℕ → Type 0
Excludes c p q =
    (period : Period) × (slice_get c.periods p ≡ Some period)
    × Contains period.excludes (record { 0 = q })

-- object p depends on object q
abbrev pub DependsOn : Config → ℕ → ℕ → Type 0
DependsOn c p q =
    (d : Dependency) × Contains c.dependencies d × (d.dependent.0 ≡ p) × (d.master.0 ≡ q)

-- Accepted: numbers stand within their lists, nothing loops, and the limits are kept.
pub record IsAccepted (c : Config) : Type 0 where
  pub few_objects : length c.objects ≤ max_objects
  pub few_contacts : length c.contacts ≤ max_contacts
  pub few_lanes : length c.lanes ≤ max_lanes
  pub few_periods : length c.periods ≤ max_periods
  pub few_escalations : length c.escalations ≤ max_escalations
  pub few_dependencies : length c.dependencies ≤ max_dependencies
  pub objects : All (ObjectFits c) c.objects
  pub contacts : All (ContactFits c) c.contacts
  pub periods : All (PeriodFits c) c.periods
  pub escalations : All (EscalationFits c) c.escalations
  pub dependencies : All (DependencyFits c) c.dependencies
  pub no_period_loop : HasNoLoop (Excludes c)
  pub no_dependency_loop : HasNoLoop (DependsOn c)
