use Rattle.std.proofs.Common.{◌≡◌, map, take}
use Rattle.object_groups.specs.ListEdges.{kind_of}
use Rattle.object_groups.specs.Shared.{wholes_of}
use Rattle.object_groups.proofs.lists.kinds_of.Given as goal

-- What the lists so far are.
abbrev pub invariant-loop-list : goal.invariant-loop-list
invariant-loop-list l = l.kinds.items ≡ map kind_of (take l.list-index (wholes_of l.values.blocks l.values.directive l.lists))
