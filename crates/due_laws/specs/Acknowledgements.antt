-- When a problem is acknowledged, without the recursions of the definition.
use Rattle.std.specs.Prelude.{◌≡◌, ◌↔◌, ℕ, Bool, true, false, List, [], ◌∷◌, ◌++◌, reverse, All, ◌==◌, Option, None, Some, IsTrue, if◌then◌else◌}
use Rattle.due_model.specs.declared.event.Event.{Event}
use Rattle.due_model.specs.declared.event.EventKind.{EventKind}
use Rattle.due_model.specs.declared.event.EventKind.TheVariants.{Clock, Program, Hard, Downtime, Flapping, Ack, AckRemoved, OwnSwitch}
use Rattle.due_model.specs.declared.state.State.{State}
use Rattle.due_model.specs.declared.config.Config.{Config}
use Rattle.due_model.specs.declared.config.Object.{Object}
use Rattle.due_model.specs.declared.zone.Zone.{Zone}
use Rattle.due_model.specs.claims.Acknowledgements.{acked, ends_ack, is_removal_of, takes_back}
use Rattle.due_model.specs.claims.Histories.{hist, released}
use Rattle.due_model.specs.claims.Readings.{hard, is_problem_state, moment}

-- whether an event is an acknowledgement of object o, and then whether it is sticky
abbrev pub ack_of : ℕ → EventKind → Option Bool
ack_of o Clock = None
ack_of o (Program on) = None
ack_of o (Hard p s) = None
ack_of o (Downtime p change) = None
ack_of o (Flapping p starts) = None
ack_of o (Ack p ack) = if p.0 == o then Some ack.sticky else None
ack_of o (AckRemoved p) = None
ack_of o (OwnSwitch p on) = None

-- the hard state of object o after these events, in the order of the feed
abbrev pub hard_after_feed : ℕ → List Event → State
hard_after_feed o feed = hard o (reverse feed)

-- the acknowledgement of a problem of object o that event e is, after these events
abbrev pub ack_at : ℕ → (front : List Event) → Event → Option Bool
ack_at o front e =
    if is_problem_state (hard_after_feed o (front ++ e ∷ [])) then ack_of o e.kind else None

-- Event a is the last acknowledgement of a problem of object o. No hard state of the object since is an OK state, nothing
-- takes it back, and, where it isn't sticky, each hard state is the one at it.
pub record IsAcknowledgedBy (o : ℕ) (earlier : List Event) (a : Event) (sticky : Bool)
    (later : List Event) : Type 0 where
  pub acknowledges : ack_at o earlier a ≡ Some sticky
  pub is_last : (front : List Event) (x : Event) (rest : List Event) → later ≡ front ++ x ∷ rest
      → ack_at o (earlier ++ a ∷ front) x ≡ None
  pub not_ended : All (λ e. ends_ack o e.kind ≡ false) later
  pub same_state : sticky ≡ false → (front rest : List Event) → later ≡ front ++ rest
      → hard_after_feed o (earlier ++ a ∷ front) ≡ hard_after_feed o (earlier ++ a ∷ [])

-- A problem is acknowledged exactly where there is such an event (chapter "External Commands").
abbrev pub AckedByLastAcknowledgement : Type 0
AckedByLastAcknowledgement = (o : ℕ) (feed : List Event) → IsTrue (acked o (reverse feed))
    ↔ ((earlier : List Event) × (a : Event) × (sticky : Bool) × (later : List Event)
    × (feed ≡ earlier ++ a ∷ later) × IsAcknowledgedBy o earlier a sticky later)

-- A problem isn't acknowledged once its acknowledgement is taken back (chapter "External Commands").
abbrev pub RemovalEndsAcknowledgements : Type 0
RemovalEndsAcknowledgements = (o : ℕ) (e : Event) (past : List Event)
    → is_removal_of o e.kind ≡ true → acked o (e ∷ past) ≡ false

-- From then on the clock attempts it again.
abbrev pub RemovalIsReady : Type 0
RemovalIsReady = (c : Config) (zone : Zone) (o : ℕ) (object : Object) (e : Event) (past : List Event)
    → takes_back o e past ≡ true
    → released o (e ∷ past) (hist c zone o object (e ∷ past)) ≡ Some (moment (e ∷ past))
