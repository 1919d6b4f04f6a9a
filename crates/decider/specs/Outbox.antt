-- An outbox as a list of notices for each lane.
use Rattle.std.specs.Prelude.{ℕ, ◌-◌, ◌<◌, ◌≤◌, List, length, filter, map, slice_index_or}
use Rattle.std.specs.VecDeque.{deque_len, deque_capacity}
use Rattle.messages.specs.declared.entries.Entry.{Entry}
use Rattle.decider.specs.declared.outbox.Outbox.{Outbox}
use Rattle.messages.specs.Entries.{is_for}
use Rattle.decider.specs.claims.Outbox.{lists}

-- how many more notices each lane has room for
abbrev pub spares : Outbox → List ℕ
spares outbox = map (λ lane. deque_capacity lane - deque_len lane) outbox.lanes.items

-- how many more lane l has room for
abbrev pub spare_at : Outbox → ℕ → ℕ
spare_at outbox l = slice_index_or (spares outbox) l 0

-- how many of these entries are for lane l
abbrev pub count_for : ℕ → List Entry → ℕ
count_for l entries = length (filter (is_for l) entries)

-- each lane has room for its notices among these entries
abbrev pub HasRoomFor : Outbox → List Entry → Type 0
HasRoomFor outbox entries =
    (l : ℕ) → l < length (lists outbox) → count_for l entries ≤ spare_at outbox l
