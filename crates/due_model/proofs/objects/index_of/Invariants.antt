use Rattle.due_model.specs.Objects.{IsIndexUpTo}
use Rattle.due_model.proofs.objects.index_of.Given as goal

-- The index has the objects so far.
abbrev pub invariant-loop-number : goal.invariant-loop-number
invariant-loop-number l = IsIndexUpTo l.objects l.number l.buckets
