-- What the deciders told their logs.
use Rattle.std.specs.Prelude.{◌≡◌, ℕ, ◌<◌, ◌≤◌, ◌%◌, Bool, false, List, [], length, slice_get, Some}
use mathlib.Core.List.{IsPrefix}
use Rattle.due_model.specs.declared.config.Config.{Config}
use Rattle.due_model.specs.declared.event.Event.{Event}
use Rattle.due_model.specs.declared.notice.Suppression.{Suppression}
use Rattle.due_model.specs.declared.zone.Zone.{Zone}
use Rattle.decider_thread.specs.claims.Laws.{of_object}
use Rattle.decider_thread.specs.Made.{suppressed}
use Rattle.delivery_worker.specs.declared.worker.Served.{Served}
use Rattle.engine_threads.specs.Run.{IsLogOf, IsRun}

-- Each log was told what its decider, of n, told: a first part of what these events suppress of the objects of its share, in order, and
-- all of it, where the log hasn't failed and memory ran out in no thread.
pub record HaveTold {L : Type 0} (tells : L → List Suppression → L → Type 0) (failed : L → Bool) (c : Config) (zone : Zone) (n : ℕ) (past : List Event)
    (refused : Bool) (given back : List L) (told : (decider : ℕ) → List Suppression) : Type 0 where
  pub few : length back ≤ length given
  pub each : (d : ℕ) (a b : L) → slice_get given d ≡ Some a → slice_get back d ≡ Some b → tells a (told d) b
  pub absent : (d : ℕ) → length back ≤ d → told d ≡ []
  pub begins : (d : ℕ) → d < n → IsPrefix (told d) (suppressed c zone (record { decider = d; deciders = n }) past)
  pub all : refused ≡ false → (d : ℕ) (b : L) → slice_get back d ≡ Some b → failed b ≡ false
      → told d ≡ suppressed c zone (record { decider = d; deciders = n }) past

-- Of the objects of a decider whose log hasn't failed nothing is left in the log of the run.
abbrev pub NoneIsLeft : {L : Type 0} → (failed : L → Bool) → (n : ℕ) → (back : List L) → (log : List Suppression) → Type 0
NoneIsLeft failed n back log =
    (o : ℕ) (b : _) → slice_get back (o % n) ≡ Some b → failed b ≡ false → of_object o log ≡ []

-- The same, and the log of the run beside it: of each object, what its decider told comes before it.
abbrev pub HaveLogged : {L : Type 0} → (tells : L → List Suppression → L → Type 0) → (failed : L → Bool) → Config → Zone
    → (past : List Event) → (refused : Bool) → (given back : List L) → (log : List Suppression) → Type 0
HaveLogged tells failed c zone past refused given back log =
    (told : (decider : ℕ) → List Suppression) × HaveTold tells failed c zone (length given) past refused given back told
    × IsLogOf c zone past refused (λ o. told (o % length given)) log × NoneIsLeft failed (length given) back log

-- What a run leaves, and its logs: they were told what of each object comes before the run's own log.
abbrev pub HasRun : {L : Type 0} → (tells : L → List Suppression → L → Type 0) → (failed : L → Bool) → Config → Zone
    → (channels : ℕ → ℕ) → (past : List Event) → (memory : Bool) → List Served → (given back : List L) → (log : List Suppression) → Type 0
HasRun tells failed c zone channels past memory served given back log =
    (told : (decider : ℕ) → List Suppression) × HaveTold tells failed c zone (length given) past memory given back told
    × IsRun c zone channels past memory served (λ o. told (o % length given)) log × NoneIsLeft failed (length given) back log
