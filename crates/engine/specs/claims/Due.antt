-- What a run promises of its lanes and of its log.
use Rattle.std.specs.Prelude.{◌≡◌, ◌≢◌, ℕ, ◌<◌, ◌++◌, All, Bool, List, length, slice_get, Some}
use mathlib.Core.List.{IsPrefix}
use Rattle.due_model.specs.declared.config.Config.{Config}
use Rattle.due_model.specs.declared.event.Event.{Event}
use Rattle.due_model.specs.declared.notice.Suppression.{Suppression}
use Rattle.due_model.specs.declared.zone.Zone.{Zone}
use Rattle.due_model.specs.claims.Due.{due, sup}
use Rattle.decider_thread.specs.claims.Decided.{IsOlder}
use Rattle.decider_thread.specs.claims.Laws.{of_object}
use Rattle.engine_threads.specs.claims.Run.{IsNamed}
use Rattle.decider_thread.specs.claims.Order.{IsInOrder}
use Rattle.steps.specs.claims.Lanes.{about}
use Rattle.undelivered.specs.declared.Why.TheVariants.{NoChannel, NoMemory}
use Rattle.engine.specs.claims.Lanes.{IsCause, LaneParts, joined}

-- Lane l at the end, where all that was due was handed to it: of each object, what was taken and then what was given up is exactly
-- what is due on it.
pub record LaneIsDue (c : Config) (zone : Zone) (past : List Event) (l : ℕ) (lane : LaneParts)
    : Type 0
  where
    pub number : lane.lane.0 ≡ l
    pub due : (o : ℕ) → o < length c.objects → about o (joined lane) ≡ due c zone o l past
    pub named : All (IsNamed c l) (joined lane)

-- All that was due: each lane is there, in order, and has what is due on it.
pub record LanesAreDue (c : Config) (zone : Zone) (past : List Event)
    (lanes : List LaneParts) : Type 0 where
  pub count : length lanes ≡ length c.lanes
  pub each : (l : ℕ) (lane : LaneParts) → slice_get lanes l ≡ Some lane
      → LaneIsDue c zone past l lane

-- Lane l at the end: of each object, what was taken and then what was given up is a first part of what is due on it.
pub record LaneBeginsDue (c : Config) (zone : Zone) (past : List Event) (l : ℕ)
    (lane : LaneParts) : Type 0 where
  pub number : lane.lane.0 ≡ l
  pub due : (o : ℕ) → o < length c.objects
      → IsPrefix (about o (joined lane)) (due c zone o l past)
  pub named : All (IsNamed c l) (joined lane)

-- the same of each lane that is there
abbrev pub LanesBeginDue : Config → Zone → (past : List Event) → List LaneParts → Type 0
LanesBeginDue c zone past lanes = (l : ℕ) (lane : LaneParts) → slice_get lanes l ≡ Some lane
    → LaneBeginsDue c zone past l lane

-- Want of memory in one lane's thread changes no other lane: of each object one part of the events was decided, the same for all
-- lanes, and a lane that has a channel and was closed for another cause has all that is due of that part.
pub record LanesKeepDue (c : Config) (zone : Zone) (past : List Event) (lanes : List LaneParts)
    : Type 0
  where
    pub decided : ℕ → List Event
    pub older : (o : ℕ) → IsOlder (decided o) past
    pub kept : (l : ℕ) (lane : LaneParts) → slice_get lanes l ≡ Some lane
        → lane.why ≢ NoMemory → lane.why ≢ NoChannel
        → (o : ℕ) → o < length c.objects → about o (joined lane) ≡ due c zone o l (decided o)

-- each lane that is there is closed for a cause
abbrev pub HaveCauses : (given : ℕ → ℕ) → (memory : Bool) → List LaneParts → Type 0
HaveCauses given memory lanes = (l : ℕ) (lane : LaneParts) → slice_get lanes l ≡ Some lane
    → IsCause (given l) memory lane

-- The log, beside what of each object was told before: of each object of the configuration what was told and then what is in the log is
-- all that is suppressed of it, and the log has nothing else; and it stands by event, then object.
pub record IsLogAfter (c : Config) (zone : Zone) (past : List Event) (told : (object : ℕ) → List Suppression)
    (log : List Suppression) : Type 0
  where
    pub each : (o : ℕ) → o < length c.objects → of_object o (told o) ++ of_object o log ≡ sup c zone o past
    pub named : All (λ s. s.object.0 < length c.objects) log
    pub order : IsInOrder log

-- A first part of it: of each object, of what is suppressed of it.
pub record BeginsLogAfter (c : Config) (zone : Zone) (past : List Event) (told : (object : ℕ) → List Suppression)
    (log : List Suppression) : Type 0
  where
    pub each : (o : ℕ) → o < length c.objects
        → IsPrefix (of_object o (told o) ++ of_object o log) (sup c zone o past)
    pub named : All (λ s. s.object.0 < length c.objects) log
    pub order : IsInOrder log
