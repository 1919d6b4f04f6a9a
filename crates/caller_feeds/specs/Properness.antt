-- Which events are proper for a configuration, as a test, by which a list of events can be filtered.
use Rattle.std.specs.Prelude.{◌↔◌, Bool, true, false, ◌&&◌, length, nat_le, nat_lt, slice_get, is_some, IsTrue}
use Rattle.std.specs.Option.{option_map_or}
use Rattle.due_model.specs.declared.config.Config.{Config}
use Rattle.due_model.specs.declared.config.Object.{Object}
use Rattle.due_model.specs.declared.event.Event.{Event}
use Rattle.due_model.specs.declared.event.EventKind.{EventKind}
use Rattle.due_model.specs.declared.event.EventKind.TheVariants.{Clock, Program, Hard, Downtime, Flapping, Ack, AckRemoved, OwnSwitch}
use Rattle.due_model.specs.claims.Limits.{last_moment}
use Rattle.due_model.specs.claims.Proper.{IsProper, is_state_of}

-- an event of this kind names an object of the configuration, if it names one, and a hard state is one of that object's kind
abbrev pub kind_is_proper : Config → EventKind → Bool
kind_is_proper c Clock = true
kind_is_proper c (Program on) = true
kind_is_proper c (Hard o state) =
    option_map_or (λ (object : Object). is_state_of (is_some object.host) state) (slice_get c.objects o.0) false
kind_is_proper c (Downtime o change) = nat_lt o.0 (length c.objects)
kind_is_proper c (Flapping o starts) = nat_lt o.0 (length c.objects)
kind_is_proper c (Ack o ack) = nat_lt o.0 (length c.objects)
kind_is_proper c (AckRemoved o) = nat_lt o.0 (length c.objects)
kind_is_proper c (OwnSwitch o on) = nat_lt o.0 (length c.objects)

abbrev pub is_proper : Config → Event → Bool
is_proper c e = nat_le e.moment last_moment && kind_is_proper c e.kind

-- the test is true exactly where the event is proper
abbrev pub TestIsProperness : Type 0
TestIsProperness = (c : Config) (e : Event) → IsTrue (is_proper c e) ↔ IsProper c e
