-- The table of steps: when each is enabled, and what it does. A step is one action of one actor.
use Rattle.std.specs.Prelude.{ℕ, ◌+◌, ◌<◌, List, [], ◌∷◌, ◌++◌}
use Rattle.std.specs.Prelude.{length, take, drop, map, reverse, slice_get, slice_set, slice_index_or, Option, Some, None}
use Rattle.std.specs.List.{range_with_len}
use Rattle.due_model.specs.declared.event.Event.{Event}
use Rattle.due_model.specs.declared.notice.Notice.{Notice}
use Rattle.due_model.specs.declared.config.Config.{Config}
use Rattle.due_model.specs.claims.Limits.{max_events}
use Rattle.due_model.specs.claims.Proper.{IsProper}
use Rattle.decider.specs.declared.share.Share.{Share}
use Rattle.decider.specs.claims.Decider.{gained}
use Rattle.steps.specs.declared.step.Step.{Step}
use Rattle.steps.specs.declared.step.Step.TheVariants.{Post, Decide, Put, Lane}
use Rattle.steps.specs.claims.Lanes.{Can, LaneState, does, queued}
use Rattle.world_steps.specs.claims.Worlds.{WorldState, DeciderState, Setup, decider_at, lane_at, outbox_at}

-- ---- a decider

-- which objects decider d owns: those whose number modulo the number of deciders is d
abbrev pub owner : Setup → (d : ℕ) → Share
owner s d = record { decider = d; deciders = s.settings.deciders }

-- the outboxes, each with what this event gains for its lane at the back
abbrev pub lengthened : Setup → Share → Event → List Event → List (List Notice) → List (List Notice)
lengthened s share e past outboxes =
    map (λ l. slice_index_or outboxes l [] ++ gained s.config s.zone share l e past)
    (range_with_len 0 (length outboxes))

-- one more event is decided, after this past
abbrev pub decided : Setup → Share → Option Event → List Event → DeciderState → DeciderState
decided s share None past decider = decider
decided s share (Some e) past decider = record {
  decided = decider.decided + 1;
  outboxes = lengthened s share e past decider.outboxes;
}

-- the front of the outbox for lane l is gone
abbrev pub without_front : ℕ → DeciderState → DeciderState
without_front l decider = record decider {
  outboxes = slice_set decider.outboxes l (drop 1 (slice_index_or decider.outboxes l []));
}

-- ---- the world

-- decider d has decided less than is posted
pub record CanDecide (w : WorldState) (d : ℕ) : Type 0 where
  pub there : d < length w.deciders
  pub left : (decider_at w d).decided < length w.posted

-- something of decider d waits for lane l, whose queue has room
pub record CanPut (s : Setup) (w : WorldState) (d l : ℕ) : Type 0 where
  pub decider : d < length w.deciders
  pub lane : l < length w.lanes
  pub outbox : 0 < length (outbox_at w d l)
  pub queue : length (lane_at w l).queue < s.settings.queue

-- lane l is there, and this holds of it
pub record OfLane (w : WorldState) (l : ℕ) (P : LaneState → Type 0) : Type 0 where
  pub there : l < length w.lanes
  pub holds : P (lane_at w l)

-- the world with lane l changed
abbrev pub with_lane : WorldState → ℕ → (LaneState → LaneState) → WorldState
with_lane w l f = record w { lanes = slice_set w.lanes l (f (lane_at w l)) }

-- the world with decider d changed
abbrev pub with_decider : WorldState → ℕ → (DeciderState → DeciderState) → WorldState
with_decider w d f = record w { deciders = slice_set w.deciders d (f (decider_at w d)) }

-- the events that decider d has decided, the newest first
abbrev pub past_of : WorldState → ℕ → List Event
past_of w d = reverse (take (decider_at w d).decided w.posted)

-- a step that posts, if it is one, posts what the feed gives
abbrev pub IsProperStep : Config → Step → Type 0
IsProperStep c (Post e) = IsProper c e
IsProperStep c (Decide d) = Unit {0}
IsProperStep c (Put d l) = Unit {0}
IsProperStep c (Lane l step) = Unit {0}

-- THE TABLE: when a step is enabled
abbrev pub IsEnabled : Setup → WorldState → Step → Type 0
IsEnabled s w (Post e) = length w.posted < max_events
IsEnabled s w (Decide d) = CanDecide w d
IsEnabled s w (Put d l) = CanPut s w d l.0
IsEnabled s w (Lane l step) = OfLane w l.0 (Can s.settings.tries step)

-- what decider d decides next
abbrev pub next_of : WorldState → (d : ℕ) → Option Event
next_of w d = slice_get w.posted (decider_at w d).decided

-- THE TABLE: what a step does
abbrev pub after : Setup → WorldState → Step → WorldState
after s w (Post e) = record w { posted = w.posted ++ e ∷ [] }
after s w (Decide d) = with_decider w d (decided s (owner s d) (next_of w d) (past_of w d))
after s w (Put d l) =
    with_lane (with_decider w d (without_front l.0)) l.0 (queued (take 1 (outbox_at w d l.0)))
after s w (Lane l step) = with_lane w l.0 (does step)
