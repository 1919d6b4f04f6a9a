use Rattle.std.proofs.Common.{◌≡◌, ℕ, length, slice_get, Some}
use Rattle.std.specs.Vec.Iter.{into_iter_items, into_iter_len}
use Rattle.engine.specs.claims.Lanes.{channels_on}
use Rattle.engine.proofs.PostLaws.{AreTakenFrom}
use Rattle.engine.proofs.lanes.channels_of.Given as goal

abbrev pub invariant-loop-post : goal.invariant-loop-post
invariant-loop-post g l =
    AreTakenFrom l.fn.posts.items l.yielded (into_iter_items l.post-iterator) (into_iter_len l.post-iterator)
    × (length l.channels.items ≡ l.count)
    × ((k : ℕ) (of_lane : _) → slice_get l.channels.items k ≡ Some of_lane → of_lane.items ≡ channels_on (λ p. p.lane.0) (λ p. p.channel) k l.yielded)
