use Rattle.std.proofs.Common.{◌≡◌}
use Rattle.object_pairs.specs.Wanted.{AreFoundBelow}
use Rattle.object_pairs.proofs.wanted.found_among.Given as goal

-- The groups stay, and these are the services of the blocks so far.
abbrev pub invariant-loop-number : goal.invariant-loop-number
invariant-loop-number l = record {
  same : l.hosts ≡ l.initial.hosts;
  below : AreFoundBelow l.services l.number l.wanted.keys l.found.keys;
}
