-- The passes of the deciders of one queue.
use Rattle.std.specs.Prelude.{◌≡◌, ℕ, List, [], slice_get, Some}
use Rattle.crossbeam_queue.specs.Passes.{Pass}
use Rattle.due_model.specs.declared.item.Item.{Item}
use Rattle.channel_queue.specs.declared.LaneQueue.{LaneQueue}
use Rattle.channel_queue.specs.declared.Seen.{Seen}
use Rattle.channel_queue.specs.Passes.{IsDecider}
use Rattle.channel_queue.specs.Rule.{decider_at, put_of}

-- the pass at each place is that of the decider of this number, which has put nothing
abbrev pub AreDeciders : LaneQueue → List (Pass Item Seen) → Type 0
AreDeciders q passes = (d : ℕ) (p : Pass Item Seen) → slice_get passes d ≡ Some p → IsDecider q d [] p

-- a decider's pass, whatever it has put
abbrev pub HavePut : LaneQueue → Pass Item Seen → Type 0
HavePut q p = IsDecider q (decider_at p) (put_of p) p
