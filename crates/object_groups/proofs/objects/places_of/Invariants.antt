use Rattle.std.proofs.Common.{◌≡◌, filter}
use Rattle.std.specs.List.{range_with_len}
use Rattle.object_groups.specs.claims.Objects.{is_object_at}
use Rattle.object_groups.proofs.objects.places_of.Given as goal

-- The objects among the blocks so far.
abbrev pub invariant-loop-place : goal.invariant-loop-place
invariant-loop-place l = l.places.items ≡ filter (is_object_at l.blocks l.kind) (range_with_len 0 l.place)
