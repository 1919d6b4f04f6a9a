-- A run of steps in a world, and what a step line does in it.
use Rattle.std.specs.Prelude.{◌≡◌, ℕ, ◌+◌, ◌≤◌, ◌⊎◌, All, List, [], ◌++◌, length, slice_get, Option, Some}
use Rattle.std.specs.Option.{option_map}
use Rattle.due_model.specs.claims.Proper.{IsProper}
use Rattle.due_model.specs.claims.Limits.{max_deciders, max_lanes, max_objects}
use Rattle.due_model.specs.declared.config.Config.{Config}
use Rattle.due_model.specs.declared.event.Event.{Event}
use Rattle.command_output.specs.claims.TraceLine.{refused_step_line}
use Rattle.command_output.specs.declared.trace_line.StepRefusal.TheVariants.{BadStep, NotEnabled}
use Rattle.text_lines.specs.LineReader.{line_limit}
use Rattle.written.specs.claims.Written.{WritesFront}
use Rattle.steps.specs.declared.step.Step.{Step}
use Rattle.steps.specs.declared.step.Step.TheVariants.{Post}
use Rattle.world_steps.specs.claims.Steps.{IsEnabled, IsProperStep, after}
use Rattle.world_steps.specs.claims.Views.{world_setup, world_state}
use Rattle.world_steps.specs.claims.Worlds.{Setup, WorldState}
use Rattle.trace.specs.declared.run.Run.{Run}
use Rattle.trace.specs.declared.step_line.StepLine.{StepLine}
use Rattle.trace.specs.declared.step_line.StepLine.TheVariants.{PostNext, Do}
use Rattle.trace.specs.StepLine.{Spells}

-- the state of a run: the events of the feed, how many of them are posted, and the world
pub record RunState : Type 0 where
  pub events : List Event
  pub posted : ℕ
  pub world : WorldState

abbrev pub run_state : Run → RunState
run_state run = record {
  events = run.events.items;
  posted = run.posted;
  world = world_state run.world;
}

-- a run fits its world: the configuration and the deciders are the world's, and each of its events can be posted
pub record Fits (run : Run) : Type 0 where
  pub config : (world_setup run.world).config ≡ run.config.now
  pub deciders : (world_setup run.world).settings.deciders ≡ run.deciders
  pub count : (1 ≤ run.deciders) × (run.deciders ≤ max_deciders)
  pub lanes : length run.config.now.lanes ≤ max_lanes
  pub objects : length run.config.now.objects ≤ max_objects
  pub events : All (IsProper run.config.now) run.events.items

-- a line that says a post posts what a feed gave, and another line says no post
abbrev pub IsProperLine : Config → StepLine → Type 0
IsProperLine c PostNext = Unit {0}
IsProperLine c (Do step) = IsProperStep c step

-- the step that a line says: a post is of the next event of the feed, if there is one
abbrev pub step_said : RunState → StepLine → Option Step
step_said run PostNext = option_map Post (slice_get run.events run.posted)
step_said run (Do step) = Some step

-- the line says a step, and that is enabled in the run's world
abbrev pub IsEnabledIn : Setup → RunState → StepLine → Type 0
IsEnabledIn s run said =
    (step : Step) × (step_said run said ≡ Some step) × IsEnabled s run.world step

-- how many events are posted once what the line says is done
abbrev pub posted_after : RunState → StepLine → ℕ
posted_after run PostNext = run.posted + 1
posted_after run (Do step) = run.posted

-- what the line says is done: its step, which was enabled, and nothing else
pub record Does (s : Setup) (old : RunState) (said : StepLine) (new : RunState) : Type 0 where
  pub step : Step
  pub is : step_said old said ≡ Some step
  pub enabled : IsEnabled s old.world step
  pub world : new.world ≡ after s old.world step
  pub posted : new.posted ≡ posted_after old said
  pub events : new.events ≡ old.events

-- What becomes of a line of this number that says what this tells, and the text that is written of it: it says no step,
-- and that is written; or it says one, and that isn't enabled, which is written; or it is done.
abbrev pub DoesSaid : Setup → (number : ℕ) → (IsSaid : StepLine → Type 0) → (old new : RunState)
    → (text : List ℕ) → Type 0
DoesSaid s number IsSaid old new text =
    (((said : StepLine) → ¬ IsSaid said)
    × (text ≡ refused_step_line number BadStep) × (new ≡ old))
    ⊎ ((said : StepLine) × IsSaid said
    × (((¬ IsEnabledIn s old said) × (text ≡ refused_step_line number NotEnabled) × (new ≡ old))
    ⊎ (Does s old said new × (text ≡ []))))

-- a front of what is held is written, or of that and what becomes of such a line
abbrev pub SaidFront : Setup → (number : ℕ) → (IsSaid : StepLine → Type 0) → (old : RunState)
    → (before after : Option (List ℕ)) → (held : List ℕ) → Type 0
SaidFront s number IsSaid old before after held =
    WritesFront before after held
    ⊎ ((new : RunState) × (text : List ℕ) × DoesSaid s number IsSaid old new text
    × WritesFront before after (held ++ text))

-- a line of at most as many bytes as a line may have says this
abbrev pub Says : Config → (deciders : ℕ) → List ℕ → StepLine → Type 0
Says c deciders line said = Spells c deciders said line × (length line ≤ line_limit)

-- what becomes of a step line
abbrev pub DoesLine : Config → (deciders : ℕ) → Setup → (number : ℕ) → (line : List ℕ)
    → (old new : RunState) → (text : List ℕ) → Type 0
DoesLine c deciders s number line old new text =
    DoesSaid s number (Says c deciders line) old new text
