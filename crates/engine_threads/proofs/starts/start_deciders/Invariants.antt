use Rattle.std.proofs.Common.{◌≡◌, ◌++◌, ℕ, length, slice_get, Some}
use Rattle.std.specs.Vec.Iter.{into_iter_items}
use Rattle.engine_threads.proofs.StartLaws.{HaveLogs}
use Rattle.engine_threads.proofs.starts.start_deciders.Given as goal

abbrev pub invariant-loop-work : goal.invariant-loop-work
invariant-loop-work g l =
    (length l.handles.items ≡ length l.yielded)
    × ((d : ℕ) (w : _) (h : _) → slice_get l.yielded d ≡ Some w → slice_get l.handles.items d ≡ Some h
    → (h.promise.config.now ≡ l.shared.config.now) × (h.promise.zone.now ≡ l.shared.zone.now) × (h.promise.queues.now ≡ l.shared.queues.now) × (h.promise.share ≡ record { decider = d; deciders = length l.fn.works.items }) × (h.promise.ring.value ≡ w.ring))
    × (l.yielded ++ into_iter_items l.work-iterator ≡ l.fn.works.items)
    × HaveLogs (λ h. h.promise.log.value) l.fn.logs.items (into_iter_items l.rest) l.handles.items
