use Rattle.std.proofs.Common.{◌≡◌, [], length, replicate}
use Rattle.std.specs.Prelude.{slice_index_or}
use Rattle.std.specs.List.{flat_map, range_with_len}
use Rattle.object_service_groups.proofs.owners.owners_of.Given as goal

-- The blocks of the services so far.
abbrev pub invariant-loop-number : goal.invariant-loop-number
invariant-loop-number l = l.owners.items
    ≡ flat_map (λ number. replicate (length (slice_index_or l.lists number [])) number) (range_with_len 0 l.number)
