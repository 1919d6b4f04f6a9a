use Rattle.std.proofs.Common.{◌≡◌, ◌≤◌, ◌++◌, ℕ, length, slice_get, Some, vec_capacity}
use Rattle.std.specs.Vec.Iter.{into_iter_items}
use Rattle.engine_threads.proofs.joins.join_all.Given as goal

abbrev pub invariant-loop-handle : goal.invariant-loop-handle
invariant-loop-handle g l =
    (length l.ends.items ≡ length l.yielded)
    × (length l.others.items ≡ length l.yielded)
    × ((i : ℕ) (h : _) (t : _) (u : _) → slice_get l.yielded i ≡ Some h → slice_get l.ends.items i ≡ Some t → slice_get l.others.items i ≡ Some u → g.P.Promise.kept_by h.promise (Some (t, u)))
    × (l.yielded ++ into_iter_items l.handle-iterator ≡ l.fn.handles.items)
    × (length l.fn.handles.items ≤ vec_capacity l.ends)
    × (length l.fn.handles.items ≤ vec_capacity l.others)
