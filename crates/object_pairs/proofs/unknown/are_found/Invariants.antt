use Rattle.std.proofs.Common.{◌≡◌, take, true}
use Rattle.std.specs.List.{list_all}
use Rattle.object_pairs.specs.Pairs.{pairs_in}
use Rattle.object_pairs.specs.Wanted.{is_found}
use Rattle.object_pairs.proofs.unknown.are_found.Given as goal

-- The pairs so far are found.
abbrev pub invariant-loop-pair : goal.invariant-loop-pair
invariant-loop-pair l = list_all (is_found l.hosts l.found.keys) (pairs_in (take l.pair-index l.pairs)) ≡ true
