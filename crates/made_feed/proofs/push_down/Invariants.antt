use Rattle.std.proofs.Common.{◌≡◌, ◌++◌, drop, flat_map, map}
use Rattle.made_feed.specs.Made.{down_line}
use Rattle.made_feed.proofs.push_down.Given as goal

abbrev pub invariant-loop-host : goal.invariant-loop-host
invariant-loop-host l =
    l.text.items ++ flat_map (down_line l.moment) (map (λ host. host.now) (drop l.host-index l.down))
    ≡ l.fn.text.items ++ flat_map (down_line l.moment) (map (λ host. host.now) l.down)
