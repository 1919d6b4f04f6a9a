-- Acknowledgements: who has taken a problem on is not woken again (chapter "External Commands").
use Rattle.std.specs.Prelude.{ℕ, Bool, false, not, ◌&&◌, ◌||◌, ◌==◌, Option, None, Some, if◌then◌else◌}
use Rattle.due_model.specs.declared.event.EventKind.{EventKind}
use Rattle.due_model.specs.declared.event.EventKind.TheVariants.{Clock, Program, Hard, Downtime, Flapping, Ack, AckRemoved, OwnSwitch}
use Rattle.due_model.specs.declared.state.State.{State}
use Rattle.due_model.specs.claims.Readings.{hard, is_ok_state, is_problem_state}
use Rattle.due_model.specs.claims.Rules.{same_state}
use Rattle.due_model.specs.claims.Acknowledgements.{acknowledgement}

-- whether an event is a hard OK state of the object
abbrev pub is_ok_of : ℕ → EventKind → Bool
is_ok_of o Clock = false
is_ok_of o (Program now) = false
is_ok_of o (Hard p s) = p.0 == o && is_ok_state s
is_ok_of o (Downtime p change) = false
is_ok_of o (Flapping p starts) = false
is_ok_of o (Ack p ack) = false
is_ok_of o (AckRemoved p) = false
is_ok_of o (OwnSwitch p on) = false

-- what is left of an acknowledgement when an object in hard state `old` has the hard state `now`
abbrev pub kept_in_state : Option Bool → (old now : State) → Option Bool
kept_in_state None old now = None
kept_in_state (Some sticky) old now =
    if not (is_ok_state now) && (sticky || same_state now old) then Some sticky else None

-- what is left of it after an event, of an object in this hard state before it
abbrev pub ack_after : ℕ → EventKind → State → Option Bool → Option Bool
ack_after o Clock old kept = kept
ack_after o (Program on) old kept = kept
ack_after o (Hard p s) old kept = if p.0 == o then kept_in_state kept old s else kept
ack_after o (Downtime p change) old kept = kept
ack_after o (Flapping p starts) old kept = kept
ack_after o (Ack p ack) old kept = if p.0 == o && is_problem_state old then Some ack.sticky else kept
ack_after o (AckRemoved p) old kept = if p.0 == o then None else kept
ack_after o (OwnSwitch p on) old kept = kept
