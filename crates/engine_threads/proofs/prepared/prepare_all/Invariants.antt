use Rattle.std.proofs.Common.{◌≡◌, ◌++◌, [], ℕ, length, slice_get, Some}
use Rattle.std.specs.Vec.Iter.{into_iter_items}
use Rattle.channel_queue.specs.Passes.{IsWorker}
use Rattle.engine_threads.specs.Works.{AreDeciderWorks, AreRings}
use Rattle.engine_threads.proofs.prepared.prepare_all.Given as goal

abbrev pub invariant-loop-of_lane : goal.invariant-loop-of_lane
invariant-loop-of_lane g l =
    (length l.queues.items ≡ length l.yielded)
    × (length l.works.items ≡ length l.yielded)
    × (l.yielded ++ into_iter_items l.of_lane-iterator ≡ l.fn.given.items)
    × ((k : ℕ) (c : _) (w : _) → slice_get l.yielded k ≡ Some c → slice_get l.works.items k ≡ Some w → (w.channels ≡ c) × (w.lane.0 ≡ k))
    × ((k : ℕ) (q : _) → slice_get l.queues.items k ≡ Some q → q.deciders ≡ l.deciders)
    × ((k : ℕ) (q : _) (w : _) → slice_get l.queues.items k ≡ Some q → slice_get l.works.items k ≡ Some w → IsWorker q [] [] w.pass)
    × (length l.ends.items ≡ l.deciders)
    × AreRings l.ends.items l.senders.items
    × AreDeciderWorks l.queues.items l.ends.items
