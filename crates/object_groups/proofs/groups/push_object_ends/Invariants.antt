use Rattle.std.proofs.Common.{◌≡◌, ◌++◌, map}
use Rattle.std.specs.List.{range_with_len}
use Rattle.object_groups.specs.ListEdges.{edge}
use Rattle.object_groups.specs.Nodes.{all_objects}
use Rattle.object_groups.proofs.groups.push_object_ends.Given as goal

-- The edges so far.
abbrev pub invariant-loop-object : goal.invariant-loop-object
invariant-loop-object l = l.edges.items ≡ l.initial.edges.items ++ map (edge (all_objects l.objects l.groups)) (range_with_len 0 l.object)
