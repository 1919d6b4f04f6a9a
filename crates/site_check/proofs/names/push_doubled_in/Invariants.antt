use Rattle.std.proofs.Common.{◌≡◌, ◌++◌, filter, map}
use Rattle.std.specs.List.{range_with_len}
use Rattle.object_groups.specs.Names.{is_doubled}
use Rattle.object_groups.specs.claims.Objects.{names_in}
use Rattle.site_check.specs.Faults.{doubled_at}
use Rattle.site_check.proofs.names.push_doubled_in.Given as goal

-- Those so far.
abbrev pub invariant-loop-number : goal.invariant-loop-number
invariant-loop-number l = l.found.items ≡ l.fn.found.items
    ++ map (doubled_at l.objects.blocks l.objects.kind) (filter (is_doubled (names_in l.objects.blocks l.objects.kind)) (range_with_len 0 l.number))
