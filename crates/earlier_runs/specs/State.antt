-- What earlier runs left of each lane, as it is read.
use Rattle.std.specs.Prelude.{◌≡◌, ℕ, ◌⊎◌, Bool, Contains, true, false, List, [], ◌∷◌, ◌++◌, All, length, map, min, slice_get, Some}
use Rattle.std.specs.Arc.{arc_value}
use Rattle.std.specs.List.Sorted.{IsPermutation}
use Rattle.due_model.specs.declared.config.Config.{Config}
use Rattle.due_model.specs.declared.config.LaneId.{LaneId}
use Rattle.due_model.specs.declared.notice.Notice.{Notice}
use Rattle.journal_folder.specs.declared.lane_past.LanePast.{LanePast}
use Rattle.journal_text.specs.declared.entry.Entry.{Entry}
use Rattle.journal_text.specs.declared.entry.Entry.TheVariants.{GivenUp}
use Rattle.journaled.specs.Claims.{Past, is_new}
use Rattle.journaled.specs.Runs.{since}
use Rattle.earlier_runs.specs.declared.left.LaneState.{LaneState}

-- what a channel of the lane goes by
abbrev pub past_in : LaneState → Past
past_in state = arc_value state.past

-- From this event on letters are handed over; these were taken or given up, and these were about to be handed over, both in any order.
pub record IsState (from : ℕ) (settled begun : List Notice) (state : LaneState) : Type 0 where
  pub from_is : (past_in state).from ≡ from
  pub settled_are : IsPermutation settled (past_in state).settled
  pub begun_are : IsPermutation begun (past_in state).begun
  pub first : state.from ≡ from
  pub count : state.earlier ≡ length settled
  pub sent : state.sent ≡ length (since from settled)

-- ---- what is in doubt

-- what was read of a lane's journals
abbrev pub past_read : LanePast → Past
past_read read = record { from = read.from; settled = read.settled.items; begun = read.begun.items }

-- none of them stands there twice
abbrev pub AreOnce : List Notice → Type 0
AreOnce [] = Unit {0}
AreOnce (n ∷ ns) = (Contains ns n → ⊥) × AreOnce ns

-- all of some notices, each once
pub record AreEachOnce (notices found : List Notice) : Type 0 where
  pub each : All (Contains notices) found
  pub all : All (Contains found) notices
  pub once : AreOnce found

-- it stood there, or was added
abbrev pub AddsOnce : (found : List Notice) → Notice → (found' : List Notice) → Type 0
AddsOnce found n found' = (Contains found n × (found' ≡ found)) ⊎ ((Contains found n → ⊥) × (found' ≡ found ++ n ∷ []))

-- These are in doubt, each once: they were about to be handed over, and aren't settled.
pub record AreDoubts (read : LanePast) (doubts : List Notice) : Type 0 where
  pub each : All (λ n. Contains read.begun.items n × (is_new (past_read read) n ≡ true)) doubts
  pub all : (n : Notice) → Contains read.begun.items n → is_new (past_read read) n ≡ true → Contains doubts n
  pub once : AreOnce doubts

-- These were written as given up to such a journal, if there are any.
abbrev pub AreGivenUp : {J : Type 0} → (goes_on : J → Type 0) → (wrote : J → List Entry → J → Type 0) → List Notice → Type 0
AreGivenUp {J} goes_on wrote notices =
    (notices ≡ []) ⊎ ((before : J) × goes_on before × (after : J) × wrote before (map GivenUp notices) after)

-- ---- what is left

-- It is what was read of the lane's journals. Where letters in doubt are dropped they are given up, and settled with the others.
pub record IsLeft {J : Type 0} (says : LanePast → Type 0) (goes_on : J → Type 0) (wrote : J → List Entry → J → Type 0) (drops : Bool)
    (state : LaneState) : Type 0 where
  pub read : LanePast
  pub said : says read
  pub dropped : List Notice
  pub none : drops ≡ false → dropped ≡ []
  pub doubts : drops ≡ true → AreDoubts read dropped
  pub given_up : AreGivenUp goes_on wrote dropped
  pub is : IsState read.from (read.settled.items ++ dropped) read.begun.items state

-- One is left for each lane, in order.
pub record AreLeft {F J : Type 0} (says : F → Config → LaneId → LanePast → Type 0) (goes_on : F → Config → LaneId → J → Type 0)
    (wrote : J → List Entry → J → Type 0) (journals : F) (c : Config) (drops : Bool) (states : List LaneState) : Type 0 where
  pub count : length states ≡ min (length c.lanes) 256
  pub each : (lane : LaneId) (state : LaneState) → slice_get states lane.0 ≡ Some state
      → IsLeft (says journals c lane) (goes_on journals c lane) wrote drops state
