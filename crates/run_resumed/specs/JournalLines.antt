-- The lines of what a run's journals come to.
use Rattle.std.specs.Prelude.{◌≡◌, ℕ, List, [], Option, None, Some, flat_map, length, map, slice_get}
use Rattle.due_model.specs.declared.config.Config.{Config}
use Rattle.due_model.specs.declared.notice.Notice.{Notice}
use Rattle.journaled.specs.Wrapped.{Wrapped}
use Rattle.earlier_runs.specs.declared.left.LaneState.{LaneState}
use Rattle.earlier_runs.specs.declared.tally.LaneTally.{LaneTally}
use Rattle.earlier_runs.specs.State.{past_in}
use Rattle.earlier_runs.specs.Tally.{IsTally, journal_line}

-- what the channels of a lane took
abbrev pub taken_by : {C J : Type 0} → List (Wrapped C J) → List Notice
taken_by channels = flat_map (λ channel. map (λ receipt. receipt.notice) channel.kept.taken) channels

-- The line of lane l, of which this was left, and whose channels these are: it counts what they took. A lane of which nothing is known has
-- none.
abbrev pub IsLine : {C J : Type 0} → Config → (l : ℕ) → Option LaneState → Option (List (Wrapped C J)) → (line : List ℕ) → Type 0
IsLine c l None channels line = line ≡ []
IsLine c l (Some state) None line = line ≡ []
IsLine c l (Some state) (Some channels) line =
    (tally : LaneTally) × IsTally (past_in state) (taken_by channels) tally × (tally.earlier ≡ state.earlier)
    × (line ≡ journal_line c l tally)

-- The lines of the first lanes, so many, in order: each is that of its lane.
pub record HasLines {C J : Type 0} (c : Config) (states : List LaneState) (channels : List (List (Wrapped C J))) (count : ℕ) (text : List ℕ)
    : Type 0
  where
    pub lines : List (List ℕ)
    pub many : length lines ≡ count
    pub each : (l : ℕ) (line : List ℕ) → slice_get lines l ≡ Some line → IsLine c l (slice_get states l) (slice_get channels l) line
    pub text_is : text ≡ flat_map (λ line. line) lines
