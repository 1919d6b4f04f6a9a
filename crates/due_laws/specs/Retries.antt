-- When a problem that a filter stopped is attempted again, in worked examples.
use Rattle.std.specs.Prelude.{◌≡◌, ℕ, ◌+◌, Bool, true, false, List, [], ◌∷◌, ◌++◌, length, map, reverse, Option, None, Some}
use Rattle.due_model.specs.declared.config.Config.{Config}
use Rattle.due_model.specs.declared.config.Object.{Object}
use Rattle.due_model.specs.declared.event.Event.{Event}
use Rattle.due_model.specs.declared.event.EventKind.TheVariants as event
use Rattle.due_model.specs.declared.notice.Filter.{Filter}
use Rattle.due_model.specs.declared.notice.Filter.TheVariants as filter
use Rattle.due_model.specs.declared.notice.Kind.TheVariants as kind
use Rattle.due_model.specs.declared.rules.Last.{Last}
use Rattle.due_model.specs.declared.state.State.TheVariants as state
use Rattle.due_model.specs.declared.zone.Zone.{Zone}
use Rattle.due_model.specs.declared.zone.Zone.TheVariants.{Utc}
use Rattle.due_model.specs.claims.Due.{sup}
use Rattle.due_model.specs.claims.Histories.{retry_after}
use Rattle.due_model.specs.claims.Options.{every_letter}
use Rattle.due_laws.specs.Rows.{at, base, downtime, has, suppression_row, web}

-- after these events web is down, and the clock ticks 59 and 60 seconds later
abbrev pub two_ticks : List Event → List Event
two_ticks front = front ++ at 1000 (has 0 state.Down) ∷ at 1059 event.Clock ∷ at 1060 event.Clock ∷ []

-- the filter stops the problem at once and again 60 seconds later, not before
abbrev pub IsTriedAMinuteLater : Config → List Event → Filter → Type 0
IsTriedAMinuteLater c front why = map suppression_row (sup c Utc 0 (reverse (two_ticks front)))
    ≡ (length front, 1000, kind.Problem, state.Down, why)
    ∷ (length front + 2, 1060, kind.Problem, state.Down, why) ∷ []

-- web depends on the host db while that is down
abbrev pub on_db : Config
on_db = record base {
  objects = web ∷ record web { contacts = [] } ∷ [];
  dependencies = record {
    dependent = record { 0 = 0 };
    master = record { 0 = 1 };
    inherits = false;
    states = record {
      pending = false;
      up = false;
      down = true;
      unreachable = false;
      fine = false;
      warning = false;
      unknown = false;
      critical = false;
    };
    period = None;
  }
      ∷ [];
}

-- A problem is attempted again 60 seconds after an attempt that the program switch, the object's settings, a downtime,
-- flapping or a dependency stopped.
pub record ProblemsAreTriedAMinuteLater : Type 0 where
  pub program : IsTriedAMinuteLater base (at 990 (event.Program false) ∷ []) filter.Program
  pub disabled : IsTriedAMinuteLater (record base { objects = record web { enabled = false } ∷ [] })
      [] filter.Disabled
  pub in_downtime : IsTriedAMinuteLater base (at 990 (downtime 0) ∷ []) filter.Downtime
  pub flapping : IsTriedAMinuteLater base (at 990 (event.Flapping (record { 0 = 0 }) true) ∷ [])
      filter.Flapping
  pub options : IsTriedAMinuteLater (record base
      { objects = record web { options = record every_letter { down = false } } ∷ [] })
      [] filter.Options
  pub dependency : IsTriedAMinuteLater on_db (at 990 (has 1 state.Down) ∷ []) filter.Dependency

-- whether a filter waits for nothing that is known beforehand
abbrev pub waits_a_minute : Filter → Bool
waits_a_minute filter.Program = true
waits_a_minute filter.Disabled = true
waits_a_minute filter.Downtime = true
waits_a_minute filter.Flapping = true
waits_a_minute filter.Options = true
waits_a_minute filter.NoProblem = true
waits_a_minute filter.Period = false
waits_a_minute filter.Dependency = true
waits_a_minute filter.Acknowledged = false
waits_a_minute filter.FirstDelay = false
waits_a_minute filter.Interval = false
waits_a_minute filter.ContactDisabled = true
waits_a_minute filter.ContactOptions = true
waits_a_minute filter.ContactPeriod = true
waits_a_minute filter.HostDown = true
waits_a_minute filter.ContactNotTold = true

-- After each such filter it is 60 seconds; after an acknowledgement the clock never tries again.
pub record RetriesAreThese : Type 0 where
  pub minute : (c : Config) (zone : Zone) (object : Object) (began : ℕ) (last : Option Last) (t : ℕ)
      (why : Filter) → waits_a_minute why ≡ true
      → retry_after c zone object began last t why ≡ Some (t + 60)
  pub acknowledged : (c : Config) (zone : Zone) (object : Object) (began : ℕ) (last : Option Last)
      (t : ℕ) → retry_after c zone object began last t filter.Acknowledged ≡ None
