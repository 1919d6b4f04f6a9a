use Rattle.std.proofs.Common.{◌≡◌, ◌<◌, ◌≤◌, ◌++◌, ℕ, length, slice_get, Some}
use Rattle.std.specs.Vec.Iter.{into_iter_items}
use Rattle.engine_threads.specs.Works.{IsLonger}
use Rattle.engine_threads.proofs.prepared.add_seats.Given as goal

abbrev pub invariant-loop-pass : goal.invariant-loop-pass
invariant-loop-pass l =
    (l.place ≡ length l.yielded)
    × (l.yielded ++ into_iter_items l.pass-iterator ≡ l.fn.passes.items)
    × (length l.deciders.items ≡ length l.fn.deciders.items)
    × ((d : ℕ) (w v : _) → d < l.place → slice_get l.fn.deciders.items d ≡ Some w → slice_get l.deciders.items d ≡ Some v → IsLonger d l.queue w v)
    × ((d : ℕ) (v : _) → l.place ≤ d → slice_get l.deciders.items d ≡ Some v → slice_get l.fn.deciders.items d ≡ Some v)
