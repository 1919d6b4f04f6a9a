use Rattle.std.proofs.Common.{◌≡◌, ◌+◌, ◌++◌, map}
use Rattle.std.specs.Prelude.{slice_index_or}
use Rattle.std.specs.List.{range_with_len}
use Rattle.object_groups.specs.ListEdges.{edge}
use Rattle.object_dependency_loops.proofs.lists.push_links.Given as goal

-- The links of the blocks so far.
abbrev pub invariant-loop-number : goal.invariant-loop-number
invariant-loop-number l = l.links.items
    ≡ l.initial.links.items ++ map (λ k. edge (slice_index_or l.places k 0) (l.node + k)) (range_with_len 0 l.number)
