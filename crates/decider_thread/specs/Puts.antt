-- What a decider has put for its lanes.
use Rattle.std.specs.Prelude.{◌≡◌, ℕ, List, [], ◌∷◌, ◌++◌, length, map, slice_get, sum, Some}
use Rattle.crossbeam_queue.specs.Passes.{Pass}
use Rattle.due_model.specs.declared.item.Item.{Item}
use Rattle.due_model.specs.declared.item.Item.TheVariants as item
use Rattle.due_model.specs.declared.notice.Notice.{Notice}
use Rattle.decider.specs.declared.outbox.Outbox.{Outbox}
use Rattle.decider.specs.claims.Outbox.{lists}
use Rattle.channel_queue.specs.declared.LaneQueue.{LaneQueue}
use Rattle.channel_queue.specs.declared.Seen.{Seen}
use Rattle.channel_queue.specs.Passes.{IsDecider}
use Rattle.decider_thread.specs.declared.seats.Seat.{Seat}

-- the notices as items of decider d
abbrev pub as_items : (d : ℕ) → List Notice → List Item
as_items d ns = map (item.Notice d) ns

-- the pass of decider d has put the first part of these notices, and the others wait
pub record Puts (q : LaneQueue) (d : ℕ) (waiting whole : List Notice) (p : Pass Item Seen) : Type 0 where
  pub put : List Notice
  pub is : IsDecider q d (as_items d put) p
  pub rest : put ++ waiting ≡ whole

-- the same of lane l
abbrev pub PutAt : (d : ℕ) → List LaneQueue → List Seat → (waiting whole : ℕ → List Notice) → (l : ℕ) → Type 0
PutAt d queues seats waiting whole l =
    (q : LaneQueue) (s : Seat) → slice_get queues l ≡ Some q → slice_get seats l ≡ Some s
    → Puts q d (waiting l) (whole l) s.pass

-- the same of each lane
abbrev pub ArePut : (d : ℕ) → List LaneQueue → List Seat → (waiting whole : ℕ → List Notice) → Type 0
ArePut d queues seats waiting whole = (l : ℕ) → PutAt d queues seats waiting whole l

-- the pass of lane l has put all of these, and then its end
abbrev pub EndedAt : (d : ℕ) → List LaneQueue → List Seat → (whole : ℕ → List Notice) → (l : ℕ) → Type 0
EndedAt d queues seats whole l =
    (q : LaneQueue) (s : Seat) → slice_get queues l ≡ Some q → slice_get seats l ≡ Some s
    → IsDecider q d (as_items d (whole l) ++ item.End d ∷ []) s.pass

-- the same of each lane
abbrev pub HaveEnded : (d : ℕ) → List LaneQueue → List Seat → (whole : ℕ → List Notice) → Type 0
HaveEnded d queues seats whole = (l : ℕ) → EndedAt d queues seats whole l

-- how many notices wait in all lanes
abbrev pub waiting_count : Outbox → ℕ
waiting_count outbox = sum (map length (lists outbox))
