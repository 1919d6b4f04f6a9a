-- An outbox as a list of notices for each lane.
use Rattle.std.specs.Prelude.{ℕ, ◌-◌, List, [], map, slice_index_or}
use Rattle.std.specs.VecDeque.{deque_items}
use Rattle.due_model.specs.declared.notice.Notice.{Notice}
use Rattle.decider.specs.declared.outbox.Outbox.{Outbox}

-- the notices that wait, lane by lane, the oldest first
abbrev pub lists : Outbox → List (List Notice)
lists outbox = map deque_items outbox.lanes.items

-- the notices that wait for lane l
abbrev pub waiting_at : Outbox → ℕ → List Notice
waiting_at outbox l = slice_index_or (lists outbox) l []
