-- What a lane holds of an object, and what it is to be.
use Rattle.std.specs.Prelude.{◌≡◌, ◌≢◌, ℕ, ◌%◌, ◌<◌, List, ◌++◌, length, AllPairs}
use Rattle.due_model.specs.declared.notice.Notice.{Notice}
use Rattle.due_model.specs.claims.Due.{due}
use Rattle.steps.specs.claims.Lanes.{about, contents}
use Rattle.world_steps.specs.claims.Worlds.{WorldState, Setup, lane_at, outbox_at}
use Rattle.world_steps.specs.claims.Steps.{past_of}

-- the number of the decider that owns object o
abbrev pub decider_of : Setup → (o : ℕ) → ℕ
decider_of s o = o % s.settings.deciders

-- Line: what is in lane l and then what is in the outbox of the object's decider, restricted to the object
abbrev pub line : Setup → WorldState → (l o : ℕ) → List Notice
line s w l o = about o (contents (lane_at w l) ++ outbox_at w (decider_of s o) l)

-- The headline: for each lane and object, Line is what the rules make due from the events that the object's
-- decider has decided.
abbrev pub LinesAreDue : Setup → WorldState → Type 0
LinesAreDue s w = (l o : ℕ) → l < length s.config.lanes → o < length s.config.objects
    → line s w l o ≡ due s.config s.zone o l (past_of w (decider_of s o))

-- Each notice stands there once.
abbrev pub NoticesStandOnce : Setup → WorldState → Type 0
NoticesStandOnce s w = (l o : ℕ) → l < length s.config.lanes → o < length s.config.objects
    → AllPairs (λ a b. a ≢ b) (line s w l o)
