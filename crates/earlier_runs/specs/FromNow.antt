-- What is given up of what is due so far.
use Rattle.std.specs.Prelude.{◌≡◌, ◌↔◌, ℕ, ◌<◌, ◌==◌, ◌&&◌, Bool, IsTrue, not, nat_lt, List, filter, length, map, min, slice_get, Some}
use Rattle.due_model.specs.declared.config.Config.{Config}
use Rattle.due_model.specs.declared.config.LaneId.{LaneId}
use Rattle.due_model.specs.declared.notice.Notice.{Notice}
use Rattle.journal_folder.specs.declared.lane_past.LanePast.{LanePast}
use Rattle.journal_text.specs.declared.entry.Entry.{Entry}
use Rattle.journal_text.specs.declared.entry.Entry.TheVariants.{GivenUp}
use Rattle.journaled.specs.Claims.{IsHeld, Past}
use Rattle.earlier_runs.specs.declared.left.LaneState.{LaneState}
use Rattle.earlier_runs.specs.State.{IsState, past_in, past_read}

-- it tells of each notice whether it is of an event before the first, or among what was settled, just as it is
abbrev pub TellsHeld : Past → (Notice → Bool) → Type 0
TellsHeld past was_held = (n : Notice) → IsTrue (was_held n) ↔ IsHeld past n

-- of these notices those of lane l, of an event before this one, that weren't held
abbrev pub given_up : (was_held : Notice → Bool) → (l from : ℕ) → List Notice → List Notice
given_up was_held l from notices = filter (λ n. (n.lane.0 == l) && (nat_lt n.event from && not (was_held n))) notices

-- ---- of one lane

-- What is due and wasn't sent, by what was known of its journals, was written as given up to a new journal, and nothing else; and that took
-- their place.
pub record GivesUp {J : Type 0} (knows : LanePast → Type 0) (begins : J → Type 0) (replaced : Type 0) (wrote : J → List Entry → J → Type 0)
    (l from : ℕ) (due : List Notice) : Type 0 where
  pub read : LanePast
  pub known : knows read
  pub before : J
  pub began : begins before
  pub after : J
  pub wrote_all : (was_held : Notice → Bool) → TellsHeld (past_read read) was_held
      → wrote before (map GivenUp (given_up was_held l from due)) after
  pub is_replaced : replaced

-- the same of each lane
abbrev pub GivesUpAll : {F J : Type 0} → (knows : F → Config → LaneId → LanePast → Type 0) → (begins : F → Config → LaneId → ℕ → J → Type 0)
    → (replaced : F → Config → LaneId → Type 0) → (wrote : J → List Entry → J → Type 0) → (journals : F) → Config → (from : ℕ)
    → (due : List Notice) → Type 0
GivesUpAll knows begins replaced wrote journals c from due =
    (lane : LaneId) → lane.0 < min (length c.lanes) 256
    → GivesUp (knows journals c lane) (begins journals c lane from) (replaced journals c lane) wrote lane.0 from due

-- ---- under way

-- A journal was begun for each lane, and this is what is known of it.
pub record IsBegun {J : Type 0} (knows : LanePast → Type 0) (begins : J → Type 0) (state : LaneState) (journal : J) : Type 0 where
  pub read : LanePast
  pub known : knows read
  pub is : IsState read.from read.settled.items read.begun.items state
  pub began : begins journal

pub record AreBegun {F J : Type 0} (knows : F → Config → LaneId → LanePast → Type 0) (begins : F → Config → LaneId → ℕ → J → Type 0)
    (journals : F) (c : Config) (from count : ℕ) (states : List LaneState) (begun : List J) : Type 0 where
  pub states_count : length states ≡ count
  pub begun_count : length begun ≡ count
  pub each : (lane : LaneId) (state : LaneState) (journal : J) → slice_get states lane.0 ≡ Some state → slice_get begun lane.0 ≡ Some journal
      → IsBegun (knows journals c lane) (begins journals c lane from) state journal

-- These entries were written to the journal at this place, and nothing to any other.
pub record WritesAt {J : Type 0} (wrote : J → List Entry → J → Type 0) (journals : List J) (at : ℕ) (entries : List Entry) (journals' : List J) : Type 0 where
  pub count : length journals' ≡ length journals
  pub others : (l : ℕ) → (l ≡ at → ⊥) → slice_get journals' l ≡ slice_get journals l
  pub here : (before after : J) → slice_get journals at ≡ Some before → slice_get journals' at ≡ Some after → wrote before entries after

-- Of these notices, which were seen, those that weren't sent are written to the journals of their lanes.
pub record HasGivenUp {J : Type 0} (wrote : J → List Entry → J → Type 0) (states : List LaneState) (from : ℕ) (journals : List J)
    (notices : List Notice) (states' : List LaneState) (from' : ℕ) (journals' : List J) : Type 0 where
  pub states_are : states' ≡ states
  pub from_is : from' ≡ from
  pub count : length journals' ≡ length journals
  pub each : (l : ℕ) (state : LaneState) (before after : J) (was_held : Notice → Bool) → slice_get states l ≡ Some state
      → slice_get journals l ≡ Some before → slice_get journals' l ≡ Some after → TellsHeld (past_in state) was_held
      → wrote before (map GivenUp (given_up was_held l from notices)) after
