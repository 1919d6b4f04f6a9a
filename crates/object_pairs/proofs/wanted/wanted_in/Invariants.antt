use Rattle.std.proofs.Common.{take}
use Rattle.object_pairs.specs.Wanted.{AreAllWanted, AreMarked, AreWantedAt}
use Rattle.object_pairs.proofs.wanted.wanted_in.Given as goal

-- The pairs of the places so far are there.
abbrev pub invariant-loop-place : goal.invariant-loop-place
invariant-loop-place l = record {
  all : AreAllWanted l.hosts l.wanted.keys l.values (take l.place-index l.places);
  read : AreMarked (AreWantedAt l.hosts l.wanted.keys l.values) l.read.items;
}
