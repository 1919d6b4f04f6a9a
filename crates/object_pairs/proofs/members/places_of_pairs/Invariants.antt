use Rattle.std.proofs.Common.{◌≡◌, take}
use Rattle.std.specs.List.{filter_map}
use Rattle.object_pairs.specs.claims.Members.{place_of_pair}
use Rattle.object_pairs.specs.Pairs.{pairs_in}
use Rattle.object_pairs.proofs.members.places_of_pairs.Given as goal

-- The places of the pairs so far.
abbrev pub invariant-loop-pair : goal.invariant-loop-pair
invariant-loop-pair l = l.places.items ≡ filter_map (place_of_pair l.hosts l.services) (pairs_in (take l.pair-index l.pairs))
