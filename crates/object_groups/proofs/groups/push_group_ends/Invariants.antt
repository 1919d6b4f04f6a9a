use Rattle.std.proofs.Common.{◌≡◌, ◌++◌}
use Rattle.std.specs.List.{flat_map, range_with_len}
use Rattle.object_groups.specs.Nodes.{group_ends}
use Rattle.object_groups.proofs.groups.push_group_ends.Given as goal

-- The edges so far.
abbrev pub invariant-loop-group : goal.invariant-loop-group
invariant-loop-group l = l.edges.items ≡ l.initial.edges.items ++ flat_map (group_ends l.objects l.groups) (range_with_len 0 l.group)
