use Rattle.std.proofs.Common.{◌≡◌, ◌≤◌, ◌++◌, ℕ, length, slice_get, Some, vec_capacity}
use Rattle.std.specs.Vec.Iter.{into_iter_items}
use Rattle.engine.specs.Lanes.{IsEndOf}
use Rattle.engine.proofs.lanes.ends_of.Given as goal

abbrev pub invariant-loop-lane : goal.invariant-loop-lane
invariant-loop-lane l =
    (length l.ends.items ≡ length l.yielded)
    × ((k : ℕ) (s : _) (end : _) → slice_get l.yielded k ≡ Some s → slice_get l.ends.items k ≡ Some end
    → (n : ℕ) → slice_get l.counts k ≡ Some n → IsEndOf k n s end)
    × (l.yielded ++ into_iter_items l.lane-iterator ≡ l.fn.served.items)
    × (length l.fn.served.items ≤ vec_capacity l.ends)
