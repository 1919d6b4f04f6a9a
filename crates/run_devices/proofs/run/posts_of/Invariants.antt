use Rattle.std.proofs.Common.{◌≡◌, ◌++◌, length, map, take}
use Rattle.std.specs.Vec.Iter.{into_iter_items}
use Rattle.run_devices.specs.Channels.{numbered_from}
use Rattle.run_devices.proofs.run.posts_of.Given as goal

-- the channels so far are on the first lanes
abbrev pub invariant-loop-channel : goal.invariant-loop-channel
invariant-loop-channel l =
    (map (λ post. post.lane) l.posts.items ≡ take (length l.yielded) l.lanes)
    × (length l.posts.items ≡ length l.yielded)
    × (l.yielded ++ into_iter_items l.channel-iterator ≡ l.fn.channels.items)
    × (map (λ post. post.channel.channel) l.posts.items ≡ numbered_from 0 l.yielded)
