-- Which events are proper for a configuration.
use Rattle.std.specs.Prelude.{◌≡◌, ◌≤◌, Bool, false, not, slice_get, Some, IsTrue, is_some}
use Rattle.due_model.specs.declared.config.Config.{Config}
use Rattle.due_model.specs.declared.config.Object.{Object}
use Rattle.due_model.specs.declared.event.Event.{Event}
use Rattle.due_model.specs.declared.event.EventKind.{EventKind}
use Rattle.due_model.specs.declared.event.EventKind.TheVariants.{Clock, Program, Hard, Downtime, Flapping, Ack, AckRemoved, OwnSwitch}
use Rattle.due_model.specs.declared.state.State.{State}
use Rattle.due_model.specs.declared.state.State.TheVariants.{Pending, Up, Down, Unreachable, Fine, Warning, Unknown, Critical}
use Rattle.due_model.specs.claims.Accepted.{HasObject}
use Rattle.due_model.specs.claims.Limits.{last_moment}

-- whether a hard state is one of a service's, or of a host's, and not pending (chapter "State Types")
abbrev pub is_state_of : (service : Bool) → State → Bool
is_state_of service Pending = false
is_state_of service Up = not service
is_state_of service Down = not service
is_state_of service Unreachable = not service
is_state_of service Fine = service
is_state_of service Warning = service
is_state_of service Unknown = service
is_state_of service Critical = service

-- the event names an object of the configuration, if it names one, and a hard state is one of that object's kind
abbrev pub KindIsProper : Config → EventKind → Type 0
KindIsProper c Clock = Unit {0}
KindIsProper c (Program on) = Unit {0}
KindIsProper c (Hard o state) =
    (object : Object) × (slice_get c.objects o.0 ≡ Some object)
    × IsTrue (is_state_of (is_some object.host) state)
KindIsProper c (Downtime o change) = HasObject c o.0
KindIsProper c (Flapping o starts) = HasObject c o.0
KindIsProper c (Ack o ack) = HasObject c o.0
KindIsProper c (AckRemoved o) = HasObject c o.0
KindIsProper c (OwnSwitch o on) = HasObject c o.0

-- Proper: what the feed gives
pub record IsProper (c : Config) (e : Event) : Type 0 where
  pub stamp : e.moment ≤ last_moment
  pub kind : KindIsProper c e.kind
