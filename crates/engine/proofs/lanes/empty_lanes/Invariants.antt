use Rattle.std.proofs.Common.{◌≡◌, [], ℕ, length, slice_get, Some}
use Rattle.engine.proofs.lanes.empty_lanes.Given as goal

abbrev pub invariant-loop-lane : goal.invariant-loop-lane
invariant-loop-lane g l =
    (length l.channels.items ≡ l._lane) × ((k : ℕ) (of_lane : _) → slice_get l.channels.items k ≡ Some of_lane → of_lane.items ≡ [])
