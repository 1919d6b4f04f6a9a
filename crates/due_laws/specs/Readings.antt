-- What the readings of the past say of the whole list of events, in the order of the feed.
use Rattle.std.specs.Prelude.{◌≡◌, ◌↔◌, ℕ, ◌-◌, ◌<◌, ◌≤◌, ◌⊎◌, Bool, true, false, List, [], ◌∷◌, ◌++◌, length, reverse, take, All, Any, count_by, ◌==◌, Option, None, Some, IsTrue, if◌then◌else◌}
use Rattle.due_model.specs.declared.config.Config.{Config}
use Rattle.due_model.specs.declared.config.Object.{Object}
use Rattle.due_model.specs.declared.event.Event.{Event}
use Rattle.due_model.specs.declared.event.EventKind.{EventKind}
use Rattle.due_model.specs.declared.event.EventKind.TheVariants.{Clock, Program, Hard, Downtime, Flapping, Ack, AckRemoved, OwnSwitch}
use Rattle.due_model.specs.declared.event.DowntimeChange.TheVariants.{Start, End, Cancelled}
use Rattle.due_model.specs.declared.notice.Outcome.{Outcome}
use Rattle.due_model.specs.declared.notice.Outcome.TheVariants.{Nothing, Sent, Suppressed}
use Rattle.due_model.specs.declared.state.State.{State}
use Rattle.due_model.specs.declared.state.State.TheVariants as state
use Rattle.due_model.specs.declared.zone.Zone.{Zone}
use Rattle.due_model.specs.Acknowledgements.{is_ok_of}
use Rattle.due_model.specs.claims.Histories.{of_problem, notices_sent, last_notice, ready, retry_after, after_notice, is_enabled}
use Rattle.due_model.specs.claims.Readings.{moment, program_on, hard, flapping, down, is_problem_of, is_problem_state, switched}
use Rattle.due_model.specs.Readings.{began}
use Rattle.due_model.specs.claims.Rules.{is_problem}

-- The moment after some events is at least each stamp, and one of them.
pub record IsGreatestStamp (feed : List Event) (m : ℕ) : Type 0 where
  pub above_each : All (λ e. e.moment ≤ m) feed
  pub one_of_them : 0 < length feed → Any (λ e. e.moment ≡ m) feed

abbrev pub MomentIsGreatestStamp : Type 0
MomentIsGreatestStamp = (feed : List Event) → IsGreatestStamp feed (moment (reverse feed))

-- an outcome of an attempt as a problem
abbrev pub tries_problem : Outcome → Bool
tries_problem Nothing = false
tries_problem (Sent k s number m gap reach) = is_problem k
tries_problem (Suppressed k s number m why) = is_problem k

-- when the clock attempts a problem again after this outcome, which followed those
abbrev pub ready_after : Config → Zone → Object → (began : ℕ) → List Outcome → Outcome → Option ℕ
ready_after c zone object began front Nothing = None
ready_after c zone object began front (Sent k s number m gap reach) = after_notice m gap reach
ready_after c zone object began front (Suppressed k s number m why) = retry_after c zone object
    began (last_notice (reverse front)) m why

-- When the next attempt as a problem is, follows from the last outcome of one; with none there is no next.
pub record IsReadyByLast : Type 0 where
  pub by_last : (c : Config) (zone : Zone) (object : Object) (began : ℕ) (front : List Outcome)
      (x : Outcome) (rest : List Outcome)
      → tries_problem x ≡ true → All (λ y. tries_problem y ≡ false) rest
      → ready c zone object began (reverse (front ++ x ∷ rest))
      ≡ ready_after c zone object began front x
  pub never : (c : Config) (zone : Zone) (object : Object) (began : ℕ) (outcomes : List Outcome)
      → All (λ y. tries_problem y ≡ false) outcomes
      → ready c zone object began (reverse outcomes) ≡ None

-- an event starts a downtime of the object, or ends or cancels one
abbrev pub starts_downtime : ℕ → EventKind → Bool
starts_downtime o Clock = false
starts_downtime o (Program on) = false
starts_downtime o (Hard p s) = false
starts_downtime o (Downtime p Start) = p.0 == o
starts_downtime o (Downtime p End) = false
starts_downtime o (Downtime p Cancelled) = false
starts_downtime o (Flapping p starts) = false
starts_downtime o (Ack p ack) = false
starts_downtime o (AckRemoved p) = false
starts_downtime o (OwnSwitch p on) = false

abbrev pub ends_downtime : ℕ → EventKind → Bool
ends_downtime o Clock = false
ends_downtime o (Program on) = false
ends_downtime o (Hard p s) = false
ends_downtime o (Downtime p Start) = false
ends_downtime o (Downtime p End) = p.0 == o
ends_downtime o (Downtime p Cancelled) = p.0 == o
ends_downtime o (Flapping p starts) = false
ends_downtime o (Ack p ack) = false
ends_downtime o (AckRemoved p) = false
ends_downtime o (OwnSwitch p on) = false

abbrev pub starts_in : ℕ → List Event → ℕ
starts_in o events = count_by (λ e. starts_downtime o e.kind) events

abbrev pub ends_in : ℕ → List Event → ℕ
ends_in o events = count_by (λ e. ends_downtime o e.kind) events

-- from event s on, with `later` after it, starts outnumber ends and cancellations at each event
pub record Outnumbers (o : ℕ) (s : Event) (later : List Event) : Type 0 where
  pub start : starts_downtime o s.kind ≡ true
  pub at_each : (front rest : List Event) → later ≡ front ++ rest
      → ends_in o (s ∷ front) < starts_in o (s ∷ front)

-- The object is in downtime where from some start on starts outnumber ends and cancellations at each event (chapter
-- "Scheduled Downtime").
abbrev pub DownWhereStartsOutnumber : Type 0
DownWhereStartsOutnumber = (o : ℕ) (feed : List Event)
    → IsTrue (down o (reverse feed))
    ↔ ((earlier : List Event) × (s : Event) × (later : List Event)
    × (feed ≡ earlier ++ s ∷ later) × Outnumbers o s later)

abbrev pub is_pending : State → Bool
is_pending state.Pending = true
is_pending state.Up = false
is_pending state.Down = false
is_pending state.Unreachable = false
is_pending state.Fine = false
is_pending state.Warning = false
is_pending state.Unknown = false
is_pending state.Critical = false

-- an event is a pending state, as none of a feed is
abbrev pub is_pending_event : EventKind → Bool
is_pending_event Clock = false
is_pending_event (Program on) = false
is_pending_event (Hard p s) = is_pending s
is_pending_event (Downtime p change) = false
is_pending_event (Flapping p starts) = false
is_pending_event (Ack p ack) = false
is_pending_event (AckRemoved p) = false
is_pending_event (OwnSwitch p on) = false

-- event b, with `later` after it, is a hard problem state of the object, and no event strictly between it and the last is a hard
-- OK state of it
pub record IsInProblem (o : ℕ) (b : Event) (later : List Event) : Type 0 where
  pub problem : is_problem_of o b.kind ≡ true
  pub unbroken : All (λ e. is_ok_of o e.kind ≡ false) (take (length later - 1) later)

-- b is the least such event
pub record IsBegin (o : ℕ) (earlier : List Event) (b : Event) (later : List Event) : Type 0 where
  pub such : IsInProblem o b later
  pub least : (front : List Event) (x : Event) (rest : List Event) → earlier ≡ front ++ x ∷ rest
      → IsInProblem o x (rest ++ b ∷ later) → ⊥

-- A problem begins at the least event that is such: that is its moment, and the outcomes of the problem, and its notices, are
-- those from that event on. While the last hard state is a problem there is such an event. No event of a feed is a pending state.
pub record BeginIsLeast : Type 0 where
  pub at_moment : (o : ℕ) (earlier : List Event) (b : Event) (later : List Event)
      → All (λ e. is_pending_event e.kind ≡ false) (earlier ++ b ∷ later)
      → IsBegin o earlier b later
      → began o (reverse (earlier ++ b ∷ later)) ≡ moment (reverse (earlier ++ b ∷ []))
  pub outcomes : (o : ℕ) (earlier : List Event) (b : Event) (later : List Event)
      (before_it from_it : List Outcome)
      → All (λ e. is_pending_event e.kind ≡ false) (earlier ++ b ∷ later)
      → IsBegin o earlier b later
      → length before_it ≡ length earlier → length from_it ≡ length (b ∷ later)
      → reverse (of_problem o (reverse (earlier ++ b ∷ later)) (reverse (before_it ++ from_it)))
      ≡ from_it
  pub notices : (o : ℕ) (earlier : List Event) (b : Event) (later : List Event)
      (before_it from_it : List Outcome)
      → All (λ e. is_pending_event e.kind ≡ false) (earlier ++ b ∷ later)
      → IsBegin o earlier b later
      → length before_it ≡ length earlier → length from_it ≡ length (b ∷ later)
      → notices_sent (of_problem o (reverse (earlier ++ b ∷ later))
      (reverse (before_it ++ from_it))) ≡ notices_sent from_it
  pub exists : (o : ℕ) (feed : List Event) → All (λ e. is_pending_event e.kind ≡ false) feed
      → is_problem_state (hard o (reverse feed)) ≡ true
      → (earlier : List Event) × (b : Event) × (later : List Event) × (feed ≡ earlier ++ b ∷ later)
      × IsBegin o earlier b later

-- the hard state that an event gives object o, if it gives one
abbrev pub hard_state_of : ℕ → EventKind → Option State
hard_state_of o Clock = None
hard_state_of o (Program on) = None
hard_state_of o (Hard p s) = if p.0 == o then Some s else None
hard_state_of o (Downtime p change) = None
hard_state_of o (Flapping p starts) = None
hard_state_of o (Ack p ack) = None
hard_state_of o (AckRemoved p) = None
hard_state_of o (OwnSwitch p on) = None

-- whether an event says that object o starts or stops flapping, if it says so
abbrev pub flapping_of : ℕ → EventKind → Option Bool
flapping_of o Clock = None
flapping_of o (Program on) = None
flapping_of o (Hard p s) = None
flapping_of o (Downtime p change) = None
flapping_of o (Flapping p starts) = if p.0 == o then Some starts else None
flapping_of o (Ack p ack) = None
flapping_of o (AckRemoved p) = None
flapping_of o (OwnSwitch p on) = None

-- the program switch that an event sets, if it sets one
abbrev pub switch_of : EventKind → Option Bool
switch_of Clock = None
switch_of (Program on) = Some on
switch_of (Hard p s) = None
switch_of (Downtime p change) = None
switch_of (Flapping p starts) = None
switch_of (Ack p ack) = None
switch_of (AckRemoved p) = None
switch_of (OwnSwitch p on) = None

-- the own switch of object o that an event sets, if it sets it
abbrev pub own_switch_of : ℕ → EventKind → Option Bool
own_switch_of o Clock = None
own_switch_of o (Program on) = None
own_switch_of o (Hard p s) = None
own_switch_of o (Downtime p change) = None
own_switch_of o (Flapping p starts) = None
own_switch_of o (Ack p ack) = None
own_switch_of o (AckRemoved p) = None
own_switch_of o (OwnSwitch p on) = if p.0 == o then Some on else None

-- a value is that of the last event of the feed that gives one; where none does, it is the first value
abbrev pub IsOfLastEvent : {X : Type 0} → (EventKind → Option X) → X → List Event → X → Type 0
IsOfLastEvent gives first feed value =
    (All (λ e. gives e.kind ≡ None) feed × (value ≡ first))
    ⊎ ((front : List Event) × (e : Event) × (rest : List Event) × (feed ≡ front ++ e ∷ rest)
    × (gives e.kind ≡ Some value) × All (λ x. gives x.kind ≡ None) rest)

-- The hard state of an object is that of its last hard event; pending, where it has none (chapter "State Types").
abbrev pub HardIsOfLastEvent : Type 0
HardIsOfLastEvent = (o : ℕ) (feed : List Event)
    → IsOfLastEvent (hard_state_of o) state.Pending feed (hard o (reverse feed))

-- An object is flapping where its last flapping event is a start (chapter "State Flapping").
abbrev pub FlappingIsOfLastEvent : Type 0
FlappingIsOfLastEvent = (o : ℕ) (feed : List Event)
    → IsOfLastEvent (flapping_of o) false feed (flapping o (reverse feed))

-- The program switch is as the last event that sets it says; on, where none does (chapter "External Commands").
abbrev pub SwitchIsOfLastEvent : Type 0
SwitchIsOfLastEvent = (feed : List Event)
    → IsOfLastEvent switch_of true feed (program_on (reverse feed))

-- An object's notifications are on as the last event that switches them says; as the object text says, where none does
-- (chapter "External Commands").
abbrev pub OwnSwitchIsOfLastEvent : Type 0
OwnSwitchIsOfLastEvent = (o : ℕ) (object : Object) (feed : List Event)
    → IsOfLastEvent (own_switch_of o) object.enabled feed
    (is_enabled object (switched o (reverse feed)))
