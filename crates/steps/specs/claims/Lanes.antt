-- A lane as lists: what it holds, and the table of its steps.
use Rattle.std.specs.Prelude.{◌≡◌, ℕ, ◌+◌, ◌-◌, ◌<◌, ◌⊎◌, ◌==◌, Bool, true, false, Vec, List, [], ◌∷◌, ◌++◌, length, filter, flat_map, map, take, drop}
use Rattle.std.specs.Option.{option_to_list}
use Rattle.std.specs.declared.alloc.Global.{Global}
use Rattle.due_model.specs.declared.notice.Notice.{Notice}
use Rattle.steps.specs.declared.lane.KeptLane.{KeptLane}
use Rattle.steps.specs.declared.step.LaneStep.{LaneStep}
use Rattle.steps.specs.declared.step.LaneStep.TheVariants.{Pick, Settle, Fail, Ask, Replace, Close, Drain}

-- a lane: the records of its channels that were replaced, what the channel of now has taken, the message in hand (at most one),
-- what is given up, and what waits; then the tries that failed for the message in hand, how many channels stand by, whether
-- it is asked to close, and whether it is shut
pub record LaneState : Type 0 where
  pub ended : List (List Notice)
  pub taken : List Notice
  pub hand : List Notice
  pub undelivered : List Notice
  pub queue : List Notice
  pub failures : ℕ
  pub standbys : ℕ
  pub asked : Bool
  pub shut : Bool

-- a lane with nothing in it and so many channels: one serves and the others stand by, and without any it is shut
abbrev pub new_lane : (channels : ℕ) → LaneState
new_lane channels = record {
  ended = [];
  taken = [];
  hand = [];
  undelivered = [];
  queue = [];
  failures = 0;
  standbys = channels - 1;
  asked = false;
  shut = channels == 0;
}

-- a lane that isn't there
abbrev pub empty_lane : LaneState
empty_lane = new_lane 1

-- vectors, as lists
abbrev pub lists_of : List (Vec Notice Global) → List (List Notice)
lists_of vectors = map (λ v. v.items) vectors

-- what is kept of a lane, as its state
abbrev pub lane_state : KeptLane → LaneState
lane_state lane = record {
  ended = lists_of lane.ended.items;
  taken = lane.taken.items;
  hand = option_to_list lane.hand;
  undelivered = lane.undelivered.items;
  queue = lane.queue.items;
  failures = lane.failures;
  standbys = lane.standbys;
  asked = lane.asked;
  shut = lane.shut;
}

-- ---- its steps

-- it serves, isn't asked to close and has nothing in hand, and something waits
pub record CanPick (lane : LaneState) : Type 0 where
  pub serving : lane.shut ≡ false
  pub not_asked : lane.asked ≡ false
  pub hand : lane.hand ≡ []
  pub queue : 0 < length lane.queue

-- it serves, with a message in hand
pub record CanSettle (lane : LaneState) : Type 0 where
  pub serving : lane.shut ≡ false
  pub hand : 0 < length lane.hand

-- and a try is left
pub record CanFail (tries : ℕ) (lane : LaneState) : Type 0 where
  pub settle : CanSettle lane
  pub failures : lane.failures < tries

-- it serves, and isn't asked yet
pub record CanAsk (lane : LaneState) : Type 0 where
  pub serving : lane.shut ≡ false
  pub not_asked : lane.asked ≡ false

-- it serves and isn't asked to close, no try is left, and a channel stands by
pub record CanReplace (tries : ℕ) (lane : LaneState) : Type 0 where
  pub serving : lane.shut ≡ false
  pub not_asked : lane.asked ≡ false
  pub failures : lane.failures ≡ tries
  pub standby : 0 < lane.standbys

-- it serves, and is asked to close, or no try is left and no channel stands by
pub record CanClose (tries : ℕ) (lane : LaneState) : Type 0 where
  pub serving : lane.shut ≡ false
  pub cause : (lane.asked ≡ true) ⊎ ((lane.failures ≡ tries) × (lane.standbys ≡ 0))

-- it is shut, and something waits
pub record CanDrain (lane : LaneState) : Type 0 where
  pub shut : lane.shut ≡ true
  pub queue : 0 < length lane.queue

-- the queue's front goes into the hand
abbrev pub picked : LaneState → LaneState
picked lane = record lane { hand = take 1 lane.queue; queue = drop 1 lane.queue }

-- the channel of now has taken the message in hand
abbrev pub settled : LaneState → LaneState
settled lane = record lane { taken = lane.taken ++ lane.hand; hand = []; failures = 0 }

-- a try has failed
abbrev pub failed : LaneState → LaneState
failed lane = record lane { failures = lane.failures + 1 }

-- it is asked to close
abbrev pub asked : LaneState → LaneState
asked lane = record lane { asked = true }

-- the record of the channel of now ends, and that of the next begins with the message still in hand
abbrev pub replaced : LaneState → LaneState
replaced lane = record lane {
  ended = lane.ended ++ lane.taken ∷ [];
  taken = [];
  failures = 0;
  standbys = lane.standbys - 1;
}

-- it is shut, and the message in hand is given up
abbrev pub closed : LaneState → LaneState
closed lane = record lane { undelivered = lane.undelivered ++ lane.hand; hand = []; shut = true }

-- the queue's front is given up
abbrev pub drained : LaneState → LaneState
drained lane = record lane {
  undelivered = lane.undelivered ++ take 1 lane.queue;
  queue = drop 1 lane.queue;
}

-- THE TABLE OF LANES: when a step of a lane that has so many tries is enabled
abbrev pub Can : (tries : ℕ) → LaneStep → LaneState → Type 0
Can tries Pick lane = CanPick lane
Can tries Settle lane = CanSettle lane
Can tries Fail lane = CanFail tries lane
Can tries Ask lane = CanAsk lane
Can tries Replace lane = CanReplace tries lane
Can tries Close lane = CanClose tries lane
Can tries Drain lane = CanDrain lane

-- THE TABLE OF LANES: what a step does
abbrev pub does : LaneStep → LaneState → LaneState
does Pick lane = picked lane
does Settle lane = settled lane
does Fail lane = failed lane
does Ask lane = asked lane
does Replace lane = replaced lane
does Close lane = closed lane
does Drain lane = drained lane

-- these notices come to the back of the queue
abbrev pub queued : List Notice → LaneState → LaneState
queued notices lane = record lane { queue = lane.queue ++ notices }

-- ---- what it holds of an object

-- the notices of object o
abbrev pub about : (o : ℕ) → List Notice → List Notice
about o notices = filter (λ n. n.object.0 == o) notices

-- records, joined in order
abbrev pub join_records : List (List Notice) → List Notice
join_records records = flat_map (λ notices. notices) records

-- what the channel of a lane has taken: the records of its channels, joined in order
abbrev pub all_taken : LaneState → List Notice
all_taken lane = join_records lane.ended ++ lane.taken

-- all that is in a lane, in order: what its channel has taken, its message in hand, its undelivered list, its queue
abbrev pub contents : LaneState → List Notice
contents lane = all_taken lane ++ lane.hand ++ lane.undelivered ++ lane.queue
