-- What a step line does, and what follows from a step of the world.
use Rattle.std.proofs.Common.{◌≡◌, ◌↔◌, ◌<◌, length, get_or, slice_get, Result, IsErrOf, List, Some, refl, sym, ap, subst}
use Rattle.std.specs.Option.{option_map}
use Rattle.std.proofs.lemmas.Option.{slice_get_read}
use Rattle.due_model.specs.declared.event.Event.{Event}
use Rattle.steps.specs.declared.step.Step.{Step}
use Rattle.steps.specs.declared.step.Step.TheVariants.{Post}
use Rattle.steps.specs.declared.step.StepFault.{StepFault}
use Rattle.steps.specs.declared.step.StepFault.TheVariants.{NotEnabled}
use Rattle.world_steps.specs.claims.Steps.{IsEnabled}
use Rattle.world_steps.specs.claims.Worlds.{Setup}
use Rattle.trace.specs.declared.step_line.StepLine.{StepLine}
use Rattle.trace.specs.declared.step_line.StepLine.TheVariants.{PostNext}
use Rattle.trace.specs.Run.{RunState, IsEnabledIn, step_said}

-- what a line says is enabled where its step is
pub enabled_in : (s : Setup) (run : RunState) (said : StepLine) (step : Step) → step_said run said ≡ Some step
    → (IsEnabled s run.world step → IsEnabledIn s run said)
    × (IsEnabledIn s run said → IsEnabled s run.world step)
enabled_in s run said step e = (
  λ enabled. (step, e, enabled),
  λ h. let same : h.0 ≡ step = cc (h.1, e) in subst (IsEnabled s run.world) same h.2,
)

-- a post is of the event in its turn
pub next_said : (run : RunState) (said : StepLine) (event : Event) (events : List Event) → said ≡ PostNext → events ≡ run.events → run.posted < length events
    → event ≡ get_or events run.posted event → step_said run said ≡ Some (Post event)
next_said run said event events is same within here =
    subst (λ x. step_said run x ≡ Some (Post event)) (sym is)
    (ap (option_map Post) (subst (λ xs. slice_get xs run.posted ≡ Some event) same (slice_get_read events (length events) run.posted event refl within here)))

-- a step is refused exactly where what its line says isn't enabled
pub refused_in : {T : Type 0} (s : Setup) (run : RunState) (said : StepLine) (step : Step) (r : Result T StepFault) → step_said run said ≡ Some step
    → (IsErrOf r NotEnabled ↔ ¬ IsEnabled s run.world step) → (IsErrOf r NotEnabled ↔ ¬ IsEnabledIn s run said)
refused_in s run said step r e h =
    let enabled = enabled_in s run said step e in
    (λ refused k. h.0 refused (enabled.1 k), λ no. h.1 (λ k. no (enabled.0 k)))
