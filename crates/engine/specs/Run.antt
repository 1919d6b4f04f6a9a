-- What a run leaves.
use Rattle.std.specs.Prelude.{◌≡◌, ◌≢◌, ◌%◌, ℕ, Bool, List, [], length, reverse}
use Rattle.due_model.specs.declared.config.Config.{Config}
use Rattle.due_model.specs.declared.event.Event.{Event}
use Rattle.due_model.specs.declared.notice.Suppression.{Suppression}
use Rattle.due_model.specs.declared.zone.Zone.{Zone}
use Rattle.delivery_worker.specs.declared.worker.Served.{Served}
use Rattle.engine_threads.specs.Run.{IsRun}
use Rattle.engine_threads.specs.Told.{HaveTold, NoneIsLeft}
use Rattle.engine.specs.claims.Lanes.{LaneParts}
use Rattle.engine.specs.claims.Run.{IsRunAfter}

-- The same, where each decider, of as many as there are logs, told its log what comes before: all, where the log hasn't failed, so that
-- nothing of the decider's objects is left.
abbrev pub IsToldRunOf : {L : Type 0} → (tells : L → List Suppression → L → Type 0) → (failed : L → Bool) → Config → Zone
    → (given : ℕ → ℕ) → (events : List Event) → (memory : Bool) → List LaneParts → (logs back : List L) → (lines : List Suppression) → Type 0
IsToldRunOf tells failed c zone given events memory lanes logs back lines =
    (told : (decider : ℕ) → List Suppression) × HaveTold tells failed c zone (length logs) (reverse events) memory logs back told
    × IsRunAfter c zone given events memory lanes (λ o. told (o % length logs)) lines × NoneIsLeft failed (length logs) back lines

-- What the threads left of a run: the lanes and the log, of the events that were taken.
pub record AreThreadsEnd (c : Config) (zone : Zone) (given : ℕ → ℕ) (events : List Event)
    (memory : Bool) (lanes : List Served) (told : (object : ℕ) → List Suppression)
    (log : List Suppression) : Type 0 where
  pub run : IsRun c zone given (reverse events) memory lanes told log
  pub whole : events ≢ [] → length lanes ≡ length c.lanes
