use Rattle.std.specs.List.{range_with_len}
use Rattle.object_reached.specs.Listed.{IsNthOn, OfSome}
use Rattle.object_listing.specs.Listing.{Adds}
use Rattle.object_reached.proofs.numbers.push_by_turns.Given as goal

-- Those of the turns so far.
abbrev pub invariant-loop-turn : goal.invariant-loop-turn
invariant-loop-turn l = Adds (OfSome (λ turn. OfSome (IsNthOn l.services l.descriptions turn) l.hosts) (range_with_len 0 l.turn)) l.fn.found.items l.found.items
