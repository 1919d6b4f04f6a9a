-- What the feed makes due, against what the journals say was sent of it.
use Rattle.std.specs.Prelude.{◌≡◌, ℕ, ◌-◌, ◌<◌, ◌≤◌, ◌==◌, ◌&&◌, All, Bool, true, not, nat_lt, List, ◌∷◌, ◌++◌, filter, length, slice_get, slice_index_or, Option, None, Some}
use Rattle.std.specs.Option.{option_map_or}
use Rattle.due_model.specs.declared.notice.Notice.{Notice}
use Rattle.journaled.specs.Claims.{IsHeld, is_settled}
use Rattle.earlier_runs.specs.declared.compared.Change.{Change}
use Rattle.earlier_runs.specs.declared.compared.Change.TheVariants as change
use Rattle.earlier_runs.specs.declared.left.LaneState.{LaneState}
use Rattle.earlier_runs.specs.State.{past_in}

-- ---- of one letter that is due

-- It isn't among what was sent of its lane, but another was sent in its place, or one that is due after it.
pub record Differs (states : List LaneState) (n : Notice) : Type 0 where
  pub state : LaneState
  pub at : slice_get states n.lane.0 ≡ Some state
  pub from : state.from ≤ n.event
  pub settled : is_settled (past_in state) n ≡ true
  pub other : IsHeld (past_in state) n → ⊥

-- it is of lane l, of an event from which on letters are handed over, and settled
abbrev pub is_claimed : LaneState → (l : ℕ) → Notice → Bool
is_claimed state l n = (n.lane.0 == l) && (not (nat_lt n.event state.from) && is_settled (past_in state) n)

-- ---- of all

-- how many of these were sent of lane l
abbrev pub claims_of : List LaneState → (l : ℕ) → List Notice → ℕ
claims_of states l due = option_map_or (λ state. length (filter (is_claimed state l) due)) (slice_get states l) 0

-- no letter that is due differs
abbrev pub NoneDiffers : List LaneState → (due : List Notice) → Type 0
NoneDiffers states due = All (λ n. Differs states n → ⊥) due

-- A feed of so many events comes to the event from which on letters of each lane are handed over.
abbrev pub AreLong : List LaneState → (events : ℕ) → Type 0
AreLong states events = (l : ℕ) (state : LaneState) → slice_get states l ≡ Some state → state.from ≤ events

-- Nothing has changed: no letter differs, the feed is as long as it was, and as many of each lane are due as were sent.
pub record IsSame (states : List LaneState) (events : ℕ) (due : List Notice) : Type 0 where
  pub each : NoneDiffers states due
  pub long : AreLong states events
  pub all : (l : ℕ) (state : LaneState) → slice_get states l ≡ Some state → state.sent ≤ claims_of states l due

-- This is the first that is due and differs.
pub record IsFirstToDiffer (states : List LaneState) (due : List Notice) (n : Notice) : Type 0 where
  pub before : List Notice
  pub after : List Notice
  pub are : due ≡ before ++ n ∷ after
  pub each : NoneDiffers states before
  pub differs : Differs states n

-- The feed doesn't come to the event from which on letters of a lane are handed over, and it is that one which is told.
abbrev pub IsShort : List LaneState → (events : ℕ) → Change → Type 0
IsShort states events (change.Differs n) = ⊥
IsShort states events (change.Short lane from) =
    (state : LaneState) × (slice_get states lane.0 ≡ Some state) × (from ≡ state.from) × (events < from)
IsShort states events (change.Gone lane count) = ⊥

-- What is told has changed: this letter differs, the first of all; or none does, and the feed is too short for this lane; or it is long enough,
-- and of this lane so many fewer are due than were sent.
abbrev pub IsChange : List LaneState → (events : ℕ) → (due : List Notice) → Change → Type 0
IsChange states events due (change.Differs n) = IsFirstToDiffer states due n
IsChange states events due (change.Short lane from) = NoneDiffers states due × IsShort states events (change.Short lane from)
IsChange states events due (change.Gone lane count) =
    NoneDiffers states due × AreLong states events × (state : LaneState) × (slice_get states lane.0 ≡ Some state)
    × (count ≡ state.sent - claims_of states lane.0 due) × (0 < count)

-- nothing is told where nothing has changed
abbrev pub TellsChange : List LaneState → (events : ℕ) → (due : List Notice) → Option Change → Type 0
TellsChange states events due None = IsSame states events due
TellsChange states events due (Some change) = IsChange states events due change

-- ---- under way

-- These were compared: none of them differs, and of each lane less is left by those that were sent.
pub record HasCompared (states : List LaneState) (left : List ℕ) (differs : Option Notice) (due : List Notice)
    (states' : List LaneState) (left' : List ℕ) (differs' : Option Notice) : Type 0 where
  pub states_are : states' ≡ states
  pub differs_is : differs' ≡ differs
  pub each : NoneDiffers states due
  pub fewer : (l : ℕ) → slice_index_or left' l 0 ≡ slice_index_or left l 0 - claims_of states l due
  pub count : length left' ≡ length left

-- it stopped at one that differs
pub record StopsAt (states : List LaneState) (n : Notice) (states' : List LaneState) (differs' : Option Notice) : Type 0 where
  pub states_are : states' ≡ states
  pub differs_is : differs' ≡ Some n
  pub differs : Differs states n

-- the first lane of which something is left, if there is one
abbrev pub IsFirstLeft : (left : List ℕ) → Option Change → Type 0
IsFirstLeft left None = (l : ℕ) → slice_index_or left l 0 ≡ 0
IsFirstLeft left (Some (change.Differs n)) = ⊥
IsFirstLeft left (Some (change.Short lane from)) = ⊥
IsFirstLeft left (Some (change.Gone lane count)) = (count ≡ slice_index_or left lane.0 0) × (0 < count) × (lane.0 < length left)
