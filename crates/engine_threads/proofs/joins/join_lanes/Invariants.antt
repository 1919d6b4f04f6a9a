use Rattle.std.proofs.Common.{◌≡◌, ◌≤◌, ◌++◌, ℕ, length, slice_get, Some, vec_capacity}
use Rattle.std.specs.Vec.Iter.{into_iter_items}
use Rattle.engine_threads.specs.Lanes.{HaveTaken, IsServed}
use Rattle.engine_threads.proofs.joins.join_lanes.Given as goal

abbrev pub invariant-loop-handle : goal.invariant-loop-handle
invariant-loop-handle g l =
    (length l.served.items ≡ length l.yielded)
    × (length l.channels.items ≡ length l.yielded)
    × ((i : ℕ) (h s : _) → slice_get l.yielded i ≡ Some h → slice_get l.served.items i ≡ Some s → IsServed h.promise.queue.now h.promise.channels s)
    × ((i : ℕ) (h s b : _) → slice_get l.yielded i ≡ Some h → slice_get l.served.items i ≡ Some s → slice_get l.channels.items i ≡ Some b
    → HaveTaken g.C.Channel.account g.C.Channel.offered h.promise.tries h.promise.config.now s h.promise.given.value.items b.items)
    × (l.yielded ++ into_iter_items l.handle-iterator ≡ l.fn.handles.items)
    × (length l.fn.handles.items ≤ vec_capacity l.served)
    × (length l.fn.handles.items ≤ vec_capacity l.channels)
