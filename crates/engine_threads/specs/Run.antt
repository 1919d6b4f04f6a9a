-- What the threads leave, once all have ended.
use Rattle.std.specs.Prelude.{◌≡◌, ◌≢◌, ℕ, ◌<◌, ◌++◌, All, Bool, false, List, length, slice_get, Some}
use mathlib.Core.List.{IsPrefix}
use Rattle.due_model.specs.declared.config.Config.{Config}
use Rattle.due_model.specs.declared.event.Event.{Event}
use Rattle.due_model.specs.declared.notice.Suppression.{Suppression}
use Rattle.due_model.specs.declared.zone.Zone.{Zone}
use Rattle.due_model.specs.claims.Due.{due, sup}
use Rattle.decider_thread.specs.claims.Decided.{IsOlder}
use Rattle.decider_thread.specs.claims.Laws.{of_object}
use Rattle.delivery_worker.specs.declared.worker.Served.{Served}
use Rattle.delivery_worker.specs.Picked.{joined}
use Rattle.decider_thread.specs.claims.Order.{IsInOrder}
use Rattle.steps.specs.claims.Lanes.{about}
use Rattle.undelivered.specs.declared.Why.TheVariants as why
use Rattle.engine_threads.specs.Lanes.{HasCause}
use Rattle.engine_threads.specs.claims.Run.{IsNamed}

-- Lane l at the end, of these events, the newest first: of each object, what was taken and then what was given up is what is due,
-- where memory ran out in no thread; where it didn't run out in the lane's own, what is due of the events that the object's decider
-- has decided; and a first part of it in any case. It was closed for a cause.
pub record IsLaneEnd (c : Config) (zone : Zone) (l : ℕ) (channels : ℕ) (past : List Event)
    (refused : Bool) (decided : ℕ → List Event) (s : Served) : Type 0 where
  pub all_due : refused ≡ false → s.why ≢ why.NoMemory
      → (o : ℕ) → o < length c.objects → about o (joined s.held) ≡ due c zone o l past
  pub kept : s.why ≢ why.NoMemory
      → (o : ℕ) → o < length c.objects → about o (joined s.held) ≡ due c zone o l (decided o)
  pub front : (o : ℕ) → o < length c.objects
      → IsPrefix (about o (joined s.held)) (due c zone o l past)
  pub named : All (IsNamed c l) (joined s.held)
  pub cause : HasCause channels s.held s.why

-- the same of each lane; what is decided of an object is the same for all of them
pub record AreLaneEnds (c : Config) (zone : Zone) (channels : ℕ → ℕ) (past : List Event)
    (refused : Bool) (served : List Served) : Type 0 where
  pub decided : ℕ → List Event
  pub older : (o : ℕ) → IsOlder (decided o) past
  pub count : length served ≡ length c.lanes
  pub each : (l : ℕ) (s : Served) → slice_get served l ≡ Some s
      → IsLaneEnd c zone l (channels l) past refused decided s

-- The log of a run, beside what of each object its decider told before: where memory ran out in no thread, of each object all that is
-- suppressed of it, and a first part of it in any case; of objects of the configuration, and by event, then object.
pub record IsLogOf (c : Config) (zone : Zone) (past : List Event) (refused : Bool)
    (told : (object : ℕ) → List Suppression) (log : List Suppression) : Type 0 where
  pub all : refused ≡ false → (o : ℕ) → o < length c.objects
      → of_object o (told o) ++ of_object o log ≡ sup c zone o past
  pub front : (o : ℕ) → o < length c.objects
      → IsPrefix (of_object o (told o) ++ of_object o log) (sup c zone o past)
  pub named : All (λ s. s.object.0 < length c.objects) log
  pub order : IsInOrder log

-- What a run leaves, of these events, the newest first: where memory ran out nowhere, each lane with all that is due; and of each
-- lane that is there a first part of it. A lane whose own memory sufficed has all that was decided, whatever became of the others.
pub record IsRun (c : Config) (zone : Zone) (channels : ℕ → ℕ) (past : List Event)
    (memory : Bool) (served : List Served) (told : (object : ℕ) → List Suppression)
    (log : List Suppression) : Type 0 where
  pub count : memory ≡ false → length served ≡ length c.lanes
  pub all_due : memory ≡ false → (l : ℕ) (s : Served) → slice_get served l ≡ Some s
      → (o : ℕ) → o < length c.objects → about o (joined s.held) ≡ due c zone o l past
  pub decided : ℕ → List Event
  pub older : (o : ℕ) → IsOlder (decided o) past
  pub kept : (l : ℕ) (s : Served) → slice_get served l ≡ Some s → s.why ≢ why.NoMemory
      → (o : ℕ) → o < length c.objects → about o (joined s.held) ≡ due c zone o l (decided o)
  pub front : (l : ℕ) (s : Served) → slice_get served l ≡ Some s
      → (o : ℕ) → o < length c.objects → IsPrefix (about o (joined s.held)) (due c zone o l past)
  pub named : (l : ℕ) (s : Served) → slice_get served l ≡ Some s → All (IsNamed c l) (joined s.held)
  pub memory_is : memory ≡ false → (l : ℕ) (s : Served) → slice_get served l ≡ Some s
      → s.why ≢ why.NoMemory
  pub causes : (l : ℕ) (s : Served) → slice_get served l ≡ Some s
      → HasCause (channels l) s.held s.why
  pub log_is : IsLogOf c zone past memory told log
