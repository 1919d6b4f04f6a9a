use Rattle.std.proofs.Common.{◌≡◌, map, take}
use Rattle.object_groups.specs.Shared.{wholes_of}
use Rattle.object_service_groups.specs.Pairs.{left_over, lefts_in}
use Rattle.object_service_groups.proofs.members.lefts_of.Given as goal

-- What is left over of the lists so far.
abbrev pub invariant-loop-list : goal.invariant-loop-list
invariant-loop-list l = lefts_in l.lefts.items ≡ map left_over (take l.list-index (wholes_of l.values.blocks l.values.directive l.lists))
