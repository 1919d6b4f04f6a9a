-- A new world, and lists of steps.
use Rattle.std.specs.Prelude.{◌≡◌, ◌↔◌, ℕ, ◌<◌, true, List, [], ◌∷◌, length, take}
use Rattle.std.specs.Prelude.{slice_get, Some}
use mathlib.Core.List.{IsPrefix}
use Rattle.steps.specs.declared.step.Step.{Step}
use Rattle.steps.specs.declared.step.StepFault.TheVariants.{NotEnabled}
use Rattle.steps.specs.declared.step.Stopped.{Stopped}
use Rattle.steps.specs.claims.Lanes.{LaneState}
use Rattle.world_steps.specs.claims.Worlds.{WorldState, Setup, lane_at}
use Rattle.world_steps.specs.claims.Steps.{IsEnabled, after}

-- the world after these steps, in order
abbrev pub after_all : Setup → WorldState → List Step → WorldState
after_all s w [] = w
after_all s w (step ∷ steps) = after_all s (after s w step) steps

-- each of these steps is enabled where its turn comes
abbrev pub AreEnabled : Setup → WorldState → List Step → Type 0
AreEnabled s w [] = Unit {0}
AreEnabled s w (step ∷ steps) = IsEnabled s w step × AreEnabled s (after s w step) steps

-- these steps, each enabled in its turn, lead from one state to another
pub record LeadsTo (s : Setup) (before : WorldState) (steps : List Step)
    (then : WorldState) : Type 0 where
  pub state : then ≡ after_all s before steps
  pub enabled : AreEnabled s before steps

-- the steps before the place at which a run stopped lead to this state, and the step there is refused: as not
-- enabled exactly where the table says so
pub record StopsAt (s : Setup) (before : WorldState) (steps : List Step) (then : WorldState)
    (stopped : Stopped) : Type 0 where
  pub within : stopped.step < length steps
  pub done : LeadsTo s before (take stopped.step steps) then
  pub refused : (step : Step) → slice_get steps stopped.step ≡ Some step
      → stopped.fault ≡ NotEnabled ↔ ¬ IsEnabled s then step

-- a lane that is shut, and whose records are as they were before
abbrev pub StaysShut : (before then : LaneState) → Type 0
StaysShut before then =
    (then.shut ≡ true) × (then.ended ≡ before.ended) × (then.taken ≡ before.taken)

-- a lane that was shut before is still shut, and its channel has taken nothing
abbrev pub ShutTakesNothing : WorldState → WorldState → Type 0
ShutTakesNothing before then =
    (l : ℕ) → (lane_at before l).shut ≡ true → StaysShut (lane_at before l) (lane_at then l)

-- a channel that was replaced before has taken nothing more: its record stands where it stood, as it was
abbrev pub ReplacedTakeNothing : WorldState → WorldState → Type 0
ReplacedTakeNothing before then = (l : ℕ) → IsPrefix (lane_at before l).ended (lane_at then l).ended
