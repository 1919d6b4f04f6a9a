use Rattle.std.proofs.Common.{take}
use Rattle.object_pairs.specs.Pairs.{pairs_in}
use Rattle.object_pairs.proofs.WantedLemmas.{AreWantedSoFar}
use Rattle.object_pairs.proofs.wanted.want_pairs.Given as goal

-- The pairs so far are there.
abbrev pub invariant-loop-pair : goal.invariant-loop-pair
invariant-loop-pair l = AreWantedSoFar l.hosts l.initial.wanted.keys l.wanted.keys (pairs_in (take l.pair-index l.pairs))
