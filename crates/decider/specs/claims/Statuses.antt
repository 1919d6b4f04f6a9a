-- What is kept of the status of each object.
use Rattle.std.specs.Prelude.{◌≡◌, ℕ, Bool, false, List, length, slice_index_or, Option, None}
use Rattle.due_model.specs.declared.event.Event.{Event}
use Rattle.due_model.specs.declared.rules.ObjectStatus.{ObjectStatus}
use Rattle.due_model.specs.declared.state.State.{State}
use Rattle.due_model.specs.declared.state.State.TheVariants.{Pending}
use Rattle.due_model.specs.claims.Histories.{status_after}

-- each object's last hard state, how many of its downtimes run, whether it is flapping, how its problem is acknowledged,
-- and its own switch
pub record StatusLists : Type 0 where
  pub states : List State
  pub depths : List ℕ
  pub flaps : List Bool
  pub acks : List (Option Bool)
  pub switches : List (Option Bool)

-- the status of object o
abbrev pub status_at : StatusLists → (o : ℕ) → ObjectStatus
status_at s o = record {
  state = slice_index_or s.states o Pending;
  depth = slice_index_or s.depths o 0;
  flapping = slice_index_or s.flaps o false;
  acknowledged = slice_index_or s.acks o None;
  switched = slice_index_or s.switches o None;
}

-- Each status is the definitions' after this past, of so many objects.
pub record StatusesFit (objects : ℕ) (past : List Event) (s : StatusLists) : Type 0 where
  pub states : length s.states ≡ objects
  pub depths : length s.depths ≡ objects
  pub flaps : length s.flaps ≡ objects
  pub acks : length s.acks ≡ objects
  pub switches : length s.switches ≡ objects
  pub each : (o : ℕ) → status_at s o ≡ status_after o past
