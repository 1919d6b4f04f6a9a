use Rattle.object_names.specs.claims.References.{reading_of}
use Rattle.object_names.specs.Unknown.{AreFound, has_unknown_by}
use Rattle.object_names.proofs.UnknownLemmas.{HasNoneBefore}
use Rattle.object_names.proofs.unknown.first_in.Given as goal

-- None of the blocks so far names anything that isn't there.
abbrev pub invariant-loop-place : goal.invariant-loop-place
invariant-loop-place l = record {
  none : HasNoneBefore (λ place. has_unknown_by l.values.blocks place l.reference) l.place;
  found : AreFound (reading_of l.reference) l.names l.values l.found.items;
}
