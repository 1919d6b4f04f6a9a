-- What the threads begin with.
use Rattle.std.specs.Prelude.{◌≡◌, ℕ, List, [], ◌∷◌, ◌++◌, length, slice_get, Some}
use Rattle.std.specs.declared.alloc.Global.{Global}
use Rattle.rtrb.specs.declared.AnyItems.{AnyItems}
use Rattle.rtrb.specs.declared.producer.Producer.{Producer}
use Rattle.rtrb.specs.Ring.{IsPair, received}
use Rattle.crossbeam_queue.specs.Passes.{Pass}
use Rattle.due_model.specs.declared.item.Item.{Item}
use Rattle.channel_queue.specs.declared.Seen.{Seen}
use Rattle.channel_queue.specs.Passes.{IsDecider, IsWorker}
use Rattle.decider_thread.specs.declared.Signal.{Signal}
use Rattle.decider_thread.specs.declared.seats.Seat.{Seat}
use Rattle.engine_threads.specs.Sent.{HaveSent}
use Rattle.channel_queue.specs.declared.LaneQueue.{LaneQueue}
use Rattle.engine_threads.specs.declared.starts.DeciderWork.{DeciderWork}
use Rattle.decider_thread.specs.Puts.{ArePut}

-- each of these queues is of so many deciders
abbrev pub HaveDeciders : ℕ → List LaneQueue → Type 0
HaveDeciders n queues = (l : ℕ) (q : LaneQueue) → slice_get queues l ≡ Some q → q.deciders ≡ n

-- each has the pass of the worker of its lane's queue, which has picked nothing
abbrev pub AreNewWorkers : {W : Type 0} → (pass : W → Pass Item Seen) → List LaneQueue → List W
    → Type 0
AreNewWorkers {W} pass queues works =
    (l : ℕ) (q : LaneQueue) (w : W) → slice_get queues l ≡ Some q → slice_get works l ≡ Some w
    → IsWorker q [] [] (pass w)

-- a decider that has received nothing and put nothing
pub record IsDeciderWork (d : ℕ) (queues : List LaneQueue) (w : DeciderWork) : Type 0 where
  pub fresh : received w.ring ≡ []
  pub count : length w.seats.items ≡ length queues
  pub puts : ArePut d queues w.seats.items (λ _. []) (λ _. [])

-- the works of the deciders: nothing sent, nothing received, nothing put
pub record AreRings (deciders : List DeciderWork) (senders : List (Producer Signal Global AnyItems))
    : Type 0
  where
    pub unsent : HaveSent [] senders
    pub pairs : (d : ℕ) (w : DeciderWork) (p : Producer Signal Global AnyItems)
        → slice_get deciders d ≡ Some w → slice_get senders d ≡ Some p → IsPair p w.ring

abbrev pub AreDeciderWorks : List LaneQueue → List DeciderWork → Type 0
AreDeciderWorks queues deciders =
    (d : ℕ) (w : DeciderWork) → slice_get deciders d ≡ Some w → IsDeciderWork d queues w

-- decider d has one seat more, of this queue
pub record IsLonger (d : ℕ) (q : LaneQueue) (old new : DeciderWork) : Type 0 where
  pub ring : new.ring ≡ old.ring
  pub seat : Seat
  pub seats : new.seats.items ≡ old.seats.items ++ seat ∷ []
  pub is : IsDecider q d [] seat.pass

-- each decider has one seat more, of this queue
abbrev pub AreLonger : LaneQueue → (old new : List DeciderWork) → Type 0
AreLonger q old new =
    (d : ℕ) (w v : DeciderWork) → slice_get old d ≡ Some w → slice_get new d ≡ Some v → IsLonger d q w v
