use Rattle.std.proofs.Common.{◌≡◌, ◌+◌, ◌*◌, ◌++◌, flat_map}
use Rattle.std.specs.List.{range_with_len}
use Rattle.made_feed.specs.Made.{clock_line}
use Rattle.made_feed.proofs.push_clocks.Given as goal

abbrev pub invariant-loop-minute : goal.invariant-loop-minute
invariant-loop-minute l =
    l.text.items ≡ l.fn.text.items ++ flat_map (λ minute. clock_line (l.fn.moment + 60 * (minute + 1))) (range_with_len 0 l.minute)
