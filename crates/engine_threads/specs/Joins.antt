-- What is known once deciders' passes were joined to the workers'.
use Rattle.std.specs.Prelude.{◌≡◌, ℕ, ◌<◌, All, Bool, false, length, List, [], ◌∷◌, ◌++◌, slice_get, Some}
use Rattle.due_model.specs.declared.item.Item.TheVariants as item
use Rattle.due_model.specs.declared.notice.Notice.{Notice}
use Rattle.due_model.specs.declared.notice.Suppression.{Suppression}
use Rattle.due_model.specs.Items.{decider_of}
use Rattle.channel_queue.specs.declared.LaneQueue.{LaneQueue}
use Rattle.channel_queue.specs.Passes.{IsWorker}
use Rattle.channel_queue.specs.Rule.{IsPickedOf, joined_of, picked_of}
use Rattle.delivery_worker.specs.declared.worker.Served.{Served}
use Rattle.std.specs.declared.alloc.Global.{Global}
use Rattle.rtrb.specs.declared.AnyItems.{AnyItems}
use Rattle.rtrb.specs.declared.consumer.Consumer.{Consumer}
use Rattle.rtrb.specs.declared.producer.Producer.{Producer}
use Rattle.rtrb.specs.Ring.{IsPair, sent}
use Rattle.due_model.specs.declared.config.Config.{Config}
use Rattle.due_model.specs.declared.event.Event.{Event}
use Rattle.due_model.specs.declared.zone.Zone.{Zone}
use Rattle.decider_thread.specs.Made.{made_due, suppressed}
use Rattle.decider_thread.specs.declared.Signal.{Signal}
use Rattle.decider_thread.specs.declared.Signal.TheVariants.{Over}
use Rattle.decider_thread.specs.declared.ring.DeciderEnd.{DeciderEnd}
use Rattle.decider_thread.specs.claims.Decided.{IsOlder}
use Rattle.decider_thread.specs.Decided.{HasDecided, heard}
use Rattle.decider_thread.specs.Puts.{as_items}

-- all but what was joined to its pass is as it was
pub record IsKept (old new : Served) : Type 0 where
  pub held : new.held ≡ old.held
  pub why : new.why ≡ old.why
  pub picked : picked_of new.pass ≡ picked_of old.pass

abbrev pub AreKept : (old new : List Served) → Type 0
AreKept old new = (l : ℕ) (s t : Served) → slice_get old l ≡ Some s → slice_get new l ≡ Some t → IsKept s t

-- each has the pass of its lane's worker
abbrev pub AreWorkers : List LaneQueue → List Served → Type 0
AreWorkers queues served =
    (l : ℕ) (q : LaneQueue) (s : Served) → slice_get queues l ≡ Some q → slice_get served l ≡ Some s
    → IsWorker q (picked_of s.pass) (joined_of s.pass) s.pass

-- of decider d, which put these notices and its end, what was picked is a first part, and all of it once its end was picked; and
-- each item that was picked is of one of the deciders
pub record IsPicked (d : ℕ) (q : LaneQueue) (put : List Notice) (s : Served) : Type 0 where
  pub read : IsPickedOf d (picked_of s.pass) (as_items d put ++ item.End d ∷ [])
  pub numbers : All (λ x. decider_of x < q.deciders) (picked_of s.pass)

-- the same on each lane before this one
abbrev pub ArePickedBelow : (place d : ℕ) → List LaneQueue → (put : ℕ → List Notice) → List Served → Type 0
ArePickedBelow place d queues put served =
    (l : ℕ) (q : LaneQueue) (s : Served) → l < place → slice_get queues l ≡ Some q → slice_get served l ≡ Some s
    → IsPicked d q (put l) s

-- the same on each lane
abbrev pub ArePicked : (d : ℕ) → List LaneQueue → (put : ℕ → List Notice) → List Served → Type 0
ArePicked d queues put served =
    (l : ℕ) (q : LaneQueue) (s : Served) → slice_get queues l ≡ Some q → slice_get served l ≡ Some s
    → IsPicked d q (put l) s

-- Decider d of n has ended: of these events it has decided a first part, all where memory didn't run out, and what it put for each
-- lane was joined there; and this is what it suppressed: what it told, and then these lines.
pub record IsMet (c : Config) (zone : Zone) (n d : ℕ) (queues : List LaneQueue) (events : List Event) (memory : Bool) (served : List Served)
    (told lines : List Suppression) : Type 0
  where
    pub past : List Event
    pub older : IsOlder past events
    pub whole : memory ≡ false → past ≡ events
    pub picked : ArePicked d queues (λ l. made_due c zone (record { decider = d; deciders = n }) l past) served
    pub log : told ++ lines ≡ suppressed c zone (record { decider = d; deciders = n }) past

-- Decider d of n told these lines and gave back this, and this end of its ring sent it these events.
pub record IsEnd (c : Config) (zone : Zone) (n d : ℕ) (queues : List LaneQueue) (events : List Event) (told : List Suppression)
    (end : DeciderEnd) (ring : Producer Signal Global AnyItems) : Type 0
  where
    pub first : Consumer Signal Global AnyItems
    pub decided : HasDecided c zone (record { decider = d; deciders = n }) queues first told end
    pub pair : IsPair ring end.ring
    pub sent_all : sent ring ≡ heard events ++ Over ∷ []

-- the same of all deciders
abbrev pub AreEnds : Config → Zone → List LaneQueue → List Event → (told : ℕ → List Suppression) → List DeciderEnd
    → List (Producer Signal Global AnyItems) → Type 0
AreEnds c zone queues events told ends rings =
    (d : ℕ) (e : DeciderEnd) (p : Producer Signal Global AnyItems) → slice_get ends d ≡ Some e → slice_get rings d ≡ Some p
    → IsEnd c zone (length ends) d queues events (told d) e p
