-- The state of a world, as lists.
use Rattle.std.specs.Prelude.{ℕ, List, [], slice_index_or}
use Rattle.due_model.specs.declared.config.Config.{Config}
use Rattle.due_model.specs.declared.event.Event.{Event}
use Rattle.due_model.specs.declared.notice.Notice.{Notice}
use Rattle.due_model.specs.declared.zone.Zone.{Zone}
use Rattle.steps.specs.declared.settings.Settings.{Settings}
use Rattle.steps.specs.claims.Lanes.{LaneState, empty_lane}

-- a decider: how many of the posted events it has decided, and for each lane the notices that wait for its queue
pub record DeciderState : Type 0 where
  pub decided : ℕ
  pub outboxes : List (List Notice)

-- a world: the posted events, the deciders and the lanes
pub record WorldState : Type 0 where
  pub posted : List Event
  pub deciders : List DeciderState
  pub lanes : List LaneState

-- what no step changes: the configuration, the zone, and the settings of the world
pub record Setup : Type 0 where
  pub config : Config
  pub zone : Zone
  pub settings : Settings

abbrev pub setup_for : Config → Zone → Settings → Setup
setup_for config zone settings = record { config = config; zone = zone; settings = settings }

-- a decider that isn't there
abbrev pub no_decider : DeciderState
no_decider = record { decided = 0; outboxes = [] }

abbrev pub decider_at : WorldState → ℕ → DeciderState
decider_at w d = slice_index_or w.deciders d no_decider

abbrev pub lane_at : WorldState → ℕ → LaneState
lane_at w l = slice_index_or w.lanes l empty_lane

-- the notices of decider d that wait for the queue of lane l
abbrev pub outbox_at : WorldState → (d l : ℕ) → List Notice
outbox_at w d l = slice_index_or (decider_at w d).outboxes l []
