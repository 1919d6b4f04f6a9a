use Rattle.std.proofs.Common.{◌≡◌, ◌++◌, ℕ, length, slice_get, Some}
use Rattle.std.specs.Vec.Iter.{into_iter_items}
use Rattle.engine_threads.proofs.starts.start_lanes.Given as goal

abbrev pub invariant-loop-work : goal.invariant-loop-work
invariant-loop-work g l =
    (length l.handles.items ≡ length l.yielded)
    × ((i : ℕ) (w : _) (h : _) → slice_get l.yielded i ≡ Some w → slice_get l.handles.items i ≡ Some h
    → (slice_get l.shared.queues.now i ≡ Some h.promise.queue.now) × (h.promise.channels ≡ length w.channels.items)
    × (h.promise.config.now ≡ l.shared.config.now) × (h.promise.tries ≡ l.shared.tries) × (h.promise.given.value ≡ w.channels))
    × (l.yielded ++ into_iter_items l.work-iterator ≡ l.fn.works.items)
