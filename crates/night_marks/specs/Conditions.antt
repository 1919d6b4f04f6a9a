-- The condition of an object, and what an event changes in it, as the rules have it.
use Rattle.std.specs.Prelude.{ℕ, ◌+◌, Bool, not, ◌&&◌, ◌==◌, is_some, nat_lt, List, replicate, slice_index_or, Option, None, Some, if◌then◌else◌}
use Rattle.due_model.specs.declared.config.ObjectId.{ObjectId}
use Rattle.due_model.specs.declared.event.DowntimeChange.{DowntimeChange}
use Rattle.due_model.specs.declared.event.EventKind.{EventKind}
use Rattle.due_model.specs.declared.event.EventKind.TheVariants.{Clock, Program, Hard, Downtime, Flapping, Ack, AckRemoved, OwnSwitch}
use Rattle.due_model.specs.declared.state.State.TheVariants.{Pending}
use Rattle.due_model.specs.Acknowledgements.{ack_after}
use Rattle.due_model.specs.claims.Readings.{depth_changed, hard_after, is_ok_state}
use Rattle.due_model.specs.claims.Rules.{same_state}
use Rattle.night_marks.specs.declared.conditions.Condition.{Condition}

-- before the first event nothing is known
abbrev pub at_first : Condition
at_first = record { state = Pending; depth = 0; ack = None }

-- the object of which an event says something
abbrev pub event_object : EventKind → Option ObjectId
event_object Clock = None
event_object (Program on) = None
event_object (Hard o state) = Some o
event_object (Downtime o change) = Some o
event_object (Flapping o starts) = Some o
event_object (Ack o ack) = Some o
event_object (AckRemoved o) = Some o
event_object (OwnSwitch o on) = Some o

-- how many downtimes run after one began or ended; a count stays at the most that it can be
abbrev pub depth_after : DowntimeChange → (depth : ℕ) → ℕ
depth_after change depth =
    if nat_lt depth 18446744073709551614 then depth_changed change depth else depth

abbrev pub depth_on : EventKind → (depth : ℕ) → ℕ
depth_on Clock depth = depth
depth_on (Program on) depth = depth
depth_on (Hard o state) depth = depth
depth_on (Downtime o change) depth = depth_after change depth
depth_on (Flapping o starts) depth = depth
depth_on (Ack o ack) depth = depth
depth_on (AckRemoved o) depth = depth
depth_on (OwnSwitch o on) depth = depth

-- the condition of object o after an event that says something of it
abbrev pub condition_after : EventKind → (o : ℕ) → Condition → Condition
condition_after k o c = record {
  state = hard_after o k c.state;
  depth = depth_on k c.depth;
  ack = ack_after o k c.state c.ack;
}

-- ---- what is drawn

-- both are so, or neither is
abbrev pub same : Bool → Bool → Bool
same one other = if one then other else not other

-- two conditions look alike: the same state, in downtime both or neither, acknowledged both or neither
abbrev pub same_look : (c d : Condition) → Bool
same_look c d =
    same_state c.state d.state && same (nat_lt 0 c.depth) (nat_lt 0 d.depth)
    && same (is_some c.ack) (is_some d.ack)

-- a change is drawn that looks different, but not the first that is known of an object that is well
abbrev pub is_drawn : (before now : Condition) → Bool
is_drawn before now =
    not (same_look before now) && not (same_state before.state Pending && is_ok_state now.state)

-- ---- of all objects, by their numbers

unfoldable pub no_conditions : List Condition
no_conditions = replicate 65536 at_first

abbrev pub condition_at : List Condition → (o : ℕ) → Condition
condition_at conditions o = slice_index_or conditions o at_first
