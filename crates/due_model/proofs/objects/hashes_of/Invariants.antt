use Rattle.std.proofs.Common.{◌≡◌, map, take}
use Rattle.due_model.specs.Objects.{object_hash}
use Rattle.due_model.proofs.objects.hashes_of.Given as goal

abbrev pub invariant-loop-object : goal.invariant-loop-object
invariant-loop-object l = l.hashes.items ≡ map (object_hash l.objects) (take l.object-index l.objects)
