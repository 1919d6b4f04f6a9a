use Rattle.std.proofs.Common.{◌≡◌, map, take}
use Rattle.object_names.specs.Named.{objects_of}
use Rattle.object_names.proofs.named.objects_of.Given as goal

-- The objects of the types so far.
abbrev pub invariant-loop-kind : goal.invariant-loop-kind
invariant-loop-kind l = l.objects.items ≡ map (objects_of l.templates) (take l.kind-index l.kinds)
