-- The order in which a lane holds what each decider has put for it.
use Rattle.std.specs.Prelude.{◌≡◌, ℕ, ◌%◌, ◌<◌, ◌==◌, if◌then◌else◌, List, [], ◌∷◌, ◌++◌, length, take}
use Rattle.due_model.specs.declared.event.Event.{Event}
use Rattle.due_model.specs.declared.notice.Notice.{Notice}
use Rattle.due_model.specs.LaneFits.{LaneFits}
use Rattle.decider.specs.claims.Decider.{gained}
use Rattle.steps.specs.declared.step.Step.{Step}
use Rattle.steps.specs.declared.step.Step.TheVariants.{Post, Decide, Put, Lane}
use Rattle.steps.specs.declared.step.LaneStep.{LaneStep}
use Rattle.steps.specs.declared.step.LaneStep.TheVariants.{Pick, Settle, Fail, Ask, Replace, Close, Drain}
use Rattle.steps.specs.claims.Lanes.{LaneState, all_taken}
use Rattle.world_steps.specs.claims.Worlds.{WorldState, Setup, lane_at, outbox_at}
use Rattle.world_steps.specs.claims.Steps.{IsEnabled, after, owner, past_of}
use Rattle.world_steps.specs.claims.Runs.{AreEnabled, after_all}
use Rattle.world_steps.specs.Runs.{new_world}

-- the decider that a notice carries: that of its object
abbrev pub carried : Setup → Notice → ℕ
carried s n = n.object.0 % s.settings.deciders

-- what was picked of a lane's queue, in order: what its channel has taken, the message in hand, its undelivered list
abbrev pub picked_of : LaneState → List Notice
picked_of lane = all_taken lane ++ lane.hand ++ lane.undelivered

-- what a step takes from the outbox of decider d for lane l
abbrev pub put_by : WorldState → Step → (d l : ℕ) → List Notice
put_by w (Put e m) d l = if e == d then (if m.0 == l then take 1 (outbox_at w e m.0) else []) else []
put_by w (Post e) d l = []
put_by w (Decide e) d l = []
put_by w (Lane m step) d l = []

-- what these steps take from it, in order: all that decider d has put for lane l
abbrev pub puts : Setup → WorldState → List Step → (d l : ℕ) → List Notice
puts s w [] d l = []
puts s w (step ∷ steps) d l = put_by w step d l ++ puts s (after s w step) steps d l

-- THE ORDER: in every world that a list of steps reaches from a new one, each lane's queue fits what was picked of it and what
-- each decider has put.
abbrev pub LanesFit : Type 0
LanesFit = (s : Setup) (served : List ℕ) (steps : List Step) (l : ℕ)
    → length served ≡ length s.config.lanes → AreEnabled s (new_world s served) steps
    → LaneFits (carried s) s.settings.deciders
    (picked_of (lane_at (after_all s (new_world s served) steps) l))
    (lane_at (after_all s (new_world s served) steps) l).queue
    (λ d. puts s (new_world s served) steps d l)

-- all that decider d gains for lane l from these events, the newest first
abbrev pub gains : Setup → (d l : ℕ) → List Event → List Notice
gains s d l [] = []
gains s d l (e ∷ past) = gains s d l past ++ gained s.config s.zone (owner s d) l e past

-- What a decider has put for a lane, and then what waits in its outbox, is all that it has gained for it, in order.
abbrev pub OutboxesFit : Type 0
OutboxesFit = (s : Setup) (served : List ℕ) (steps : List Step) (d l : ℕ)
    → length served ≡ length s.config.lanes → AreEnabled s (new_world s served) steps
    → d < s.settings.deciders → l < length s.config.lanes
    → puts s (new_world s served) steps d l
    ++ outbox_at (after_all s (new_world s served) steps) d l
    ≡ gains s d l (past_of (after_all s (new_world s served) steps) d)

-- the record that a step of a lane ends: that of the channel which is replaced, as it stands
abbrev pub ends_record : LaneStep → LaneState → List (List Notice)
ends_record Pick lane = []
ends_record Settle lane = []
ends_record Fail lane = []
ends_record Ask lane = []
ends_record Replace lane = lane.taken ∷ []
ends_record Close lane = []
ends_record Drain lane = []

-- the record that a step ends in lane l
abbrev pub ended_by : WorldState → Step → (l : ℕ) → List (List Notice)
ended_by w (Post e) l = []
ended_by w (Decide d) l = []
ended_by w (Put d m) l = []
ended_by w (Lane m step) l = if m.0 == l then ends_record step (lane_at w l) else []

-- A channel that was replaced takes nothing more: a replacement ends the record of the channel of now, as it stands, and no step
-- changes one that has ended.
abbrev pub RecordsStay : Type 0
RecordsStay = (s : Setup) (w : WorldState) (step : Step) (l : ℕ) → IsEnabled s w step
    → (lane_at (after s w step) l).ended ≡ (lane_at w l).ended ++ ended_by w step l
