use Rattle.std.proofs.Common.{◌≡◌, ◌++◌, map}
use Rattle.std.specs.Prelude.{All}
use Rattle.std.specs.Arc.{arc_value}
use Rattle.std.specs.Vec.Iter.{into_iter_items}
use Rattle.run_resumed.specs.Resumed.{IsResumedPost}
use Rattle.run_resumed.proofs.posts.resumed_posts.Given as goal

-- the posts so far are those that were given, each over its journal
abbrev pub invariant-loop-post : goal.invariant-loop-post
invariant-loop-post l =
    (map (λ post. post.lane) l.found.items ≡ map (λ post. post.lane) l.yielded)
    × (map (λ post. post.channel.inner.sent) l.found.items ≡ map (λ post. post.channel) l.yielded)
    × All (IsResumedPost (arc_value l.config) l.states) l.found.items
    × (l.yielded ++ into_iter_items l.post-iterator ≡ l.fn.posts.items)
