use Rattle.object_groups.specs.claims.Objects.{names_in}
use Rattle.object_names.proofs.DoubledLemmas.{HasNoneBefore}
use Rattle.object_names.proofs.doubled.first_of.Given as goal

-- None of the objects so far has the name of one before it.
abbrev pub invariant-loop-number : goal.invariant-loop-number
invariant-loop-number l = HasNoneBefore (names_in l.objects.blocks l.objects.kind) l.number
