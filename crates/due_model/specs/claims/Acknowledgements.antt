-- Acknowledgements: who has taken a problem on is not woken again (chapter "External Commands").
use Rattle.std.specs.Prelude.{ℕ, Bool, true, false, not, ◌&&◌, ◌||◌, ◌==◌, List, [], ◌∷◌, Option, None, Some, if◌then◌else◌}
use Rattle.std.specs.List.{list_all}
use Rattle.std.specs.Option.{option_map}
use Rattle.due_model.specs.declared.event.Event.{Event}
use Rattle.due_model.specs.declared.event.EventKind.{EventKind}
use Rattle.due_model.specs.declared.event.EventKind.TheVariants.{Clock, Program, Hard, Downtime, Flapping, Ack, AckRemoved, OwnSwitch}
use Rattle.due_model.specs.declared.state.State.{State}
use Rattle.due_model.specs.claims.Readings.{hard, is_ok_state, is_problem_state}
use Rattle.due_model.specs.claims.Rules.{same_state}

-- whether an event takes back an acknowledgement of the object
abbrev pub is_removal_of : ℕ → EventKind → Bool
is_removal_of o (AckRemoved p) = p.0 == o
is_removal_of o k = false

-- whether an event ends what acknowledgement the object has: it is a hard OK state of it, or takes it back
abbrev pub ends_ack : ℕ → EventKind → Bool
ends_ack o Clock = false
ends_ack o (Program now) = false
ends_ack o (Hard p s) = p.0 == o && is_ok_state s
ends_ack o (Downtime p change) = false
ends_ack o (Flapping p starts) = false
ends_ack o (Ack p ack) = false
ends_ack o (AckRemoved p) = p.0 == o
ends_ack o (OwnSwitch p on) = false

-- how an event acknowledges the object, which has this hard state: sticky or not; only a problem is acknowledged
abbrev pub acknowledges : ℕ → EventKind → State → Option Bool
acknowledges o Clock state = None
acknowledges o (Program now) state = None
acknowledges o (Hard p s) state = None
acknowledges o (Downtime p change) state = None
acknowledges o (Flapping p starts) state = None
acknowledges o (Ack p ack) state =
    if p.0 == o && is_problem_state state then Some ack.sticky else None
acknowledges o (AckRemoved p) state = None
acknowledges o (OwnSwitch p on) state = None

-- whether an acknowledgement in this state outlasts an event, of which this is the past with the event: it is no hard OK
-- state of the object and doesn't take it back, and, unless the acknowledgement is sticky, the hard state is the same
abbrev pub outlasts : ℕ → (sticky : Bool) → State → List Event → Bool
outlasts o sticky state [] = true
outlasts o sticky state (e ∷ past) =
    not (ends_ack o e.kind) && (sticky || same_state (hard o (e ∷ past)) state)

-- the last acknowledgement of a problem of object o: whether it is sticky, and the hard state at it
abbrev pub last_ack : ℕ → List Event → Option (Bool × State)
last_ack o [] = None
last_ack o (e ∷ past) =
    elim (acknowledges o e.kind (hard o (e ∷ past))) as (λ _. Option (Bool × State)) [
      | None ↦ last_ack o past
      | Some sticky ↦ Some (sticky, hard o (e ∷ past))
    ]

-- the past at each event since that acknowledgement, with the event, the newest first
abbrev pub since_ack : ℕ → List Event → List (List Event)
since_ack o [] = []
since_ack o (e ∷ past) =
    elim (acknowledges o e.kind (hard o (e ∷ past))) as (λ _. List (List Event)) [
      | None ↦ (e ∷ past) ∷ since_ack o past
      | Some sticky ↦ []
    ]

-- Acked: the last acknowledgement of the object's problem outlasts each event since
abbrev pub acked : ℕ → List Event → Bool
acked o past = elim (last_ack o past) as (λ _. Bool) [
  | None ↦ false
  | Some ack ↦ list_all (outlasts o ack.0 ack.1) (since_ack o past)
]

-- how the running problem is acknowledged: sticky or not; none where it isn't
abbrev pub acknowledgement : ℕ → List Event → Option Bool
acknowledgement o past = if acked o past then option_map (λ ack. ack.0) (last_ack o past) else None

-- whether an event takes back the acknowledgement of the object's problem, of which this is the past before it
abbrev pub takes_back : ℕ → Event → List Event → Bool
takes_back o e past = is_removal_of o e.kind && acked o past
