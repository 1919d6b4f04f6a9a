-- What a decider's thread has decided, and what it gives back.
use Rattle.std.specs.Prelude.{◌≡◌, ℕ, Bool, true, false, if◌then◌else◌, List, [], ◌∷◌, ◌++◌, length}
use Rattle.std.specs.declared.alloc.Global.{Global}
use Rattle.rtrb.specs.declared.AnyItems.{AnyItems}
use Rattle.rtrb.specs.declared.consumer.Consumer.{Consumer}
use Rattle.rtrb.specs.Ring.{SameConsumer, received}
use Rattle.due_model.specs.declared.config.Config.{Config}
use Rattle.due_model.specs.declared.event.Event.{Event}
use Rattle.due_model.specs.declared.notice.Notice.{Notice}
use Rattle.due_model.specs.declared.notice.Suppression.{Suppression}
use Rattle.due_model.specs.declared.zone.Zone.{Zone}
use Rattle.decider.specs.declared.share.Share.{Share}
use Rattle.decider.specs.claims.Fits.{Fits, Kept, settings}
use Rattle.channel_queue.specs.declared.LaneQueue.{LaneQueue}
use Rattle.decider_thread.specs.declared.Signal.{Signal}
use Rattle.decider_thread.specs.declared.Signal.TheVariants.{Decides, Over}
use Rattle.decider_thread.specs.declared.seats.Seat.{Seat}
use Rattle.decider_thread.specs.declared.ring.DeciderEnd.{DeciderEnd}
use Rattle.decider_thread.specs.Made.{made_due, suppressed}
use Rattle.decider_thread.specs.Puts.{ArePut, HaveEnded}
use Rattle.decider_thread.specs.Told.{IsNoted}
use Rattle.decider_thread.specs.claims.Decided.{IsOlder}

-- the signals of these events, of which the newest is the first
abbrev pub heard : List Event → List Signal
heard [] = []
heard (e ∷ past) = heard past ++ Decides e ∷ []

-- A decider has decided this past: what it keeps fits it, of all that this made due it has put a first part of each lane, and the
-- rest waits; and all that this suppressed it has told or keeps.
pub record Stands (c : Config) (zone : Zone) (share : Share) (queues : List LaneQueue)
    (past : List Event) (k : Kept) (tells : List Suppression → Type 0) (waiting : ℕ → List Notice)
    (seats : List Seat) : Type 0 where
  pub fits : Fits k past
  pub settings : settings k ≡ (c, zone, share)
  pub puts : ArePut share.decider queues seats waiting (λ l. made_due c zone share l past)
  pub log : IsNoted tells k.log (suppressed c zone share past)

-- A decider has stopped: it has received these signals, has decided the events of a first part of them, all of them where the
-- ring is over, and of all that these made due it has put a first part of each lane, and the rest waits.
pub record HasStopped (c : Config) (zone : Zone) (share : Share) (queues : List LaneQueue)
    (over : Bool) (signals : List Signal) (waiting : ℕ → List Notice) (seats_then : List Seat)
    (tells : List Suppression → Type 0) (lines : List Suppression) : Type 0
  where
    pub past : List Event
    pub all : List Event
    pub older : IsOlder past all
    pub whole : over ≡ true → past ≡ all
    pub heard_all : signals ≡ heard all ++ (if over then Over ∷ [] else [])
    pub seats : ArePut share.decider queues seats_then waiting (λ l. made_due c zone share l past)
    pub log : IsNoted tells lines (suppressed c zone share past)

-- A decider has received all signals of its ring, has decided the events of a first part of them, all of them where memory didn't
-- run out, and has put all that these made due.
pub record HasHeard (c : Config) (zone : Zone) (share : Share) (queues : List LaneQueue)
    (memory : Bool) (signals : List Signal) (seats_then : List Seat)
    (tells : List Suppression → Type 0) (lines : List Suppression) : Type 0
  where
    pub past : List Event
    pub all : List Event
    pub older : IsOlder past all
    pub whole : memory ≡ false → past ≡ all
    pub heard_all : signals ≡ heard all ++ Over ∷ []
    pub seats : ArePut share.decider queues seats_then (λ _. []) (λ l. made_due c zone share l past)
    pub log : IsNoted tells lines (suppressed c zone share past)

-- What a decider's thread gives back: the end of its ring, from which it has received the signals of all these events; of each
-- lane the pass that has put what a first part of them made due, all of them where memory didn't run out, and then its end; and
-- what that part suppressed, told and then kept: these were told.
pub record HasDecided (c : Config) (zone : Zone) (share : Share) (queues : List LaneQueue)
    (ring : Consumer Signal Global AnyItems) (told : List Suppression) (end : DeciderEnd) : Type 0 where
  pub past : List Event
  pub all : List Event
  pub older : IsOlder past all
  pub whole : end.memory ≡ false → past ≡ all
  pub ring_same : SameConsumer ring end.ring
  pub heard_all : received end.ring ≡ heard all ++ Over ∷ []
  pub seats : HaveEnded share.decider queues end.seats.items (λ l. made_due c zone share l past)
  pub count : length end.seats.items ≡ length queues
  pub log : told ++ end.log.items ≡ suppressed c zone share past

-- The same, and its log, before and after: this was told what is no longer kept, and unless it has failed nothing is kept.
abbrev pub HasToldAndDecided : {L : Type 0} → (tells : L → List Suppression → L → Type 0) → (failed : L → Bool) → Config → Zone
    → Share → List LaneQueue → Consumer Signal Global AnyItems → (given : L) → DeciderEnd → (back : L) → Type 0
HasToldAndDecided tells failed c zone share queues ring given end back =
    (told : List Suppression) × tells given told back × HasDecided c zone share queues ring told end
    × (failed back ≡ false → end.log.items ≡ [])
