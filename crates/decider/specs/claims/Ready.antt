-- The ready moments of problems, as an index keeps them by object, and those that the clock judges.
use Rattle.std.specs.Prelude.{◌≡◌, ℕ, ◌*◌, ◌≤◌, Bool, true, false, ◌&&◌, List, ◌∷◌, length, filter, slice_get, Option, None, if◌then◌else◌}
use Rattle.std.specs.Option.{option_map_or}
use Rattle.due_model.specs.declared.config.Config.{Config}
use Rattle.due_model.specs.declared.event.Event.{Event}
use Rattle.due_model.specs.declared.event.EventKind.{EventKind}
use Rattle.due_model.specs.declared.event.EventKind.TheVariants.{Clock, Program, Hard, Downtime, Flapping, Ack, AckRemoved, OwnSwitch}
use Rattle.due_model.specs.declared.zone.Zone.{Zone}
use Rattle.due_model.specs.claims.Histories.{ready, ready_or}
use Rattle.due_model.specs.claims.Limits.{max_objects}
use Rattle.due_model.specs.claims.Changes.{delayed}
use Rattle.due_model.specs.claims.Readings.{hard, is_problem_state, moment}
use Rattle.due_model.specs.claims.Rules.{has_come}
use Rattle.due_times.specs.claims.Index.{Due, at}
use Rattle.problem_count.specs.claims.Fits.{book_of, problem, released_after}
use Rattle.decider.specs.declared.share.Share.{Share}
use Rattle.decider.specs.claims.Share.{is_owned, owned_numbers}

-- when the clock next attempts the problem of object o, if the share has the object and a problem of it runs
abbrev pub ready_of : Config → Zone → Share → List Event → (o : ℕ) → Option ℕ
ready_of c zone share past o =
    if is_owned share o
    then option_map_or (λ settings. (book_of c zone o settings past).due)
    (slice_get c.objects o) None
    else None

-- An index of the ready moments of the share's objects after this past.
pub record IndexFits (c : Config) (zone : Zone) (share : Share) (past : List Event)
    (index : Due) : Type 0 where
  pub room : length c.objects ≤ length index.moments
  pub each : (o : ℕ) → at index.moments o ≡ ready_of c zone share past o
  -- no more entries were handed out than there are objects, for each event
  pub few : index.examined ≤ max_objects * length past

-- whether an event is the clock's
abbrev pub is_clock : EventKind → Bool
is_clock Clock = true
is_clock (Program on) = false
is_clock (Hard o state) = false
is_clock (Downtime o change) = false
is_clock (Flapping o starts) = false
is_clock (Ack o ack) = false
is_clock (AckRemoved o) = false
is_clock (OwnSwitch o on) = false

-- whether object o has a problem that is ready by the moment of an event
abbrev pub is_ready : Config → Zone → Event → List Event → (o : ℕ) → Bool
is_ready c zone e past o =
    option_map_or
    (λ settings. is_problem_state (hard o past)
    && has_come (ready_or (released_after c zone o settings past)
    (ready c zone settings (delayed c o past) (problem c zone o settings past)))
    (moment (e ∷ past)))
    (slice_get c.objects o) false

-- how many objects of the share the clock judges at an event: those with a problem that is ready; none, where the event
-- isn't the clock's
abbrev pub judged : Config → Zone → Share → Event → List Event → ℕ
judged c zone share e past =
    if is_clock e.kind
    then length (filter (is_ready c zone e past) (owned_numbers share (length c.objects)))
    else 0
