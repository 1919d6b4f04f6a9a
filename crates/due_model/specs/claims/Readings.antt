-- What the events so far say of an object. The past is the list of events, the newest first; event 0 is the last.
use Rattle.std.specs.Prelude.{ℕ, ◌+◌, ◌-◌, max, Bool, true, false, not, ◌&&◌, List, [], ◌∷◌, nat_lt, ◌==◌, Option, None, Some, if◌then◌else◌}
use Rattle.due_model.specs.declared.event.Event.{Event}
use Rattle.due_model.specs.declared.event.EventKind.{EventKind}
use Rattle.due_model.specs.declared.event.EventKind.TheVariants.{Clock, Program, Hard, Downtime, Flapping, Ack, AckRemoved, OwnSwitch}
use Rattle.due_model.specs.declared.event.DowntimeChange.{DowntimeChange}
use Rattle.due_model.specs.declared.event.DowntimeChange.TheVariants.{Start, End, Cancelled}
use Rattle.due_model.specs.declared.state.State.{State}
use Rattle.due_model.specs.declared.state.State.TheVariants.{Pending, Up, Down, Unreachable, Fine, Warning, Unknown, Critical}

-- the OK states (chapter "State Types")
abbrev pub is_ok_state : State → Bool
is_ok_state Pending = false
is_ok_state Up = true
is_ok_state Down = false
is_ok_state Unreachable = false
is_ok_state Fine = true
is_ok_state Warning = false
is_ok_state Unknown = false
is_ok_state Critical = false

-- the problem states: all but the OK ones and pending (chapter "State Types")
abbrev pub is_problem_state : State → Bool
is_problem_state Pending = false
is_problem_state Up = false
is_problem_state Down = true
is_problem_state Unreachable = true
is_problem_state Fine = false
is_problem_state Warning = true
is_problem_state Unknown = true
is_problem_state Critical = true

-- Moment: the greatest stamp so far
abbrev pub moment : List Event → ℕ
moment [] = 0
moment (e ∷ past) = max (moment past) e.moment

-- the program switch after an event, which was so before it (chapter "External Commands")
abbrev pub switch_after : EventKind → Bool → Bool
switch_after Clock on = on
switch_after (Program now) on = now
switch_after (Hard p s) on = on
switch_after (Downtime p change) on = on
switch_after (Flapping p starts) on = on
switch_after (Ack p ack) on = on
switch_after (AckRemoved p) on = on
switch_after (OwnSwitch p own) on = on

-- whether the last program switch event is no DISABLE; the switch is on at first
abbrev pub program_on : List Event → Bool
program_on [] = true
program_on (e ∷ past) = switch_after e.kind (program_on past)

-- the hard state of object o after an event, which was so before it
abbrev pub hard_after : ℕ → EventKind → State → State
hard_after o Clock state = state
hard_after o (Program now) state = state
hard_after o (Hard p s) state = if p.0 == o then s else state
hard_after o (Downtime p change) state = state
hard_after o (Flapping p starts) state = state
hard_after o (Ack p ack) state = state
hard_after o (AckRemoved p) state = state
hard_after o (OwnSwitch p on) state = state

-- Hard: the state of the object's last hard event; pending, if there is none (chapter "State Types")
abbrev pub hard : ℕ → List Event → State
hard o [] = Pending
hard o (e ∷ past) = hard_after o e.kind (hard o past)

-- downtimes nest: one more runs after a start, and one less after an end with one running
abbrev pub depth_changed : DowntimeChange → ℕ → ℕ
depth_changed Start depth = depth + 1
depth_changed End depth = depth - 1
depth_changed Cancelled depth = depth - 1

abbrev pub depth_after : ℕ → EventKind → ℕ → ℕ
depth_after o Clock depth = depth
depth_after o (Program now) depth = depth
depth_after o (Hard p s) depth = depth
depth_after o (Downtime p change) depth = if p.0 == o then depth_changed change depth else depth
depth_after o (Flapping p starts) depth = depth
depth_after o (Ack p ack) depth = depth
depth_after o (AckRemoved p) depth = depth
depth_after o (OwnSwitch p on) depth = depth

-- how many downtimes of the object run (chapter "Scheduled Downtime")
abbrev pub depth : ℕ → List Event → ℕ
depth o [] = 0
depth o (e ∷ past) = depth_after o e.kind (depth o past)

-- Down: whether the object is in downtime
abbrev pub down : ℕ → List Event → Bool
down o past = nat_lt 0 (depth o past)

abbrev pub flapping_after : ℕ → EventKind → Bool → Bool
flapping_after o Clock flapping = flapping
flapping_after o (Program now) flapping = flapping
flapping_after o (Hard p s) flapping = flapping
flapping_after o (Downtime p change) flapping = flapping
flapping_after o (Flapping p starts) flapping = if p.0 == o then starts else flapping
flapping_after o (Ack p ack) flapping = flapping
flapping_after o (AckRemoved p) flapping = flapping
flapping_after o (OwnSwitch p on) flapping = flapping

-- Flap: whether the object's last flapping event is a start (chapter "State Flapping")
abbrev pub flapping : ℕ → List Event → Bool
flapping o [] = false
flapping o (e ∷ past) = flapping_after o e.kind (flapping o past)

-- whether an event is a hard problem state of the object
abbrev pub is_problem_of : ℕ → EventKind → Bool
is_problem_of o Clock = false
is_problem_of o (Program now) = false
is_problem_of o (Hard p s) = p.0 == o && is_problem_state s
is_problem_of o (Downtime p change) = false
is_problem_of o (Flapping p starts) = false
is_problem_of o (Ack p ack) = false
is_problem_of o (AckRemoved p) = false
is_problem_of o (OwnSwitch p on) = false

-- whether an event gives object o a hard state
abbrev pub is_hard_of : ℕ → EventKind → Bool
is_hard_of o (Hard p s) = p.0 == o
is_hard_of o k = false

-- the object's own switch after an event, which was so before it; none, where nothing switched it (chapter "External
-- Commands")
abbrev pub switched_after : ℕ → EventKind → Option Bool → Option Bool
switched_after o Clock own = own
switched_after o (Program now) own = own
switched_after o (Hard p s) own = own
switched_after o (Downtime p change) own = own
switched_after o (Flapping p starts) own = own
switched_after o (Ack p ack) own = own
switched_after o (AckRemoved p) own = own
switched_after o (OwnSwitch p on) own = if p.0 == o then Some on else own

-- what the last event that switches the object's notifications on or off says; none, where there is none
abbrev pub switched : ℕ → List Event → Option Bool
switched o [] = None
switched o (e ∷ past) = switched_after o e.kind (switched o past)

-- A problem begins with the first hard problem state after an OK or pending one (chapter "Notifications").
abbrev pub begins : ℕ → Event → List Event → Bool
begins o e past = is_problem_of o e.kind && not (is_problem_state (hard o past))
