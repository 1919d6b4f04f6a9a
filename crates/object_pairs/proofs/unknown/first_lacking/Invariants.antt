use Rattle.std.proofs.Common.{◌≡◌, false}
use Rattle.object_pairs.specs.Wanted.{AreMarked, lacks_at}
use Rattle.object_pairs.proofs.UnknownLemmas.{NoneLacks}
use Rattle.object_pairs.proofs.unknown.first_lacking.Given as goal

-- None of the groups so far lacks a pair.
abbrev pub invariant-loop-place : goal.invariant-loop-place
invariant-loop-place l = record {
  none : NoneLacks l.groups.blocks (lacks_at l.hosts l.found.keys l.values) l.place-index;
  whole : AreMarked (λ place. lacks_at l.hosts l.found.keys l.values place ≡ false) l.whole.items;
}
