use Rattle.std.proofs.Common.{◌≡◌, [], map, take}
use Rattle.std.specs.Prelude.{unwrap_or}
use Rattle.object_inheritance.specs.claims.Inherited.{value}
use Rattle.object_values.specs.Values.{texts}
use Rattle.object_groups.proofs.objects.names_at.Given as goal

-- The names at the places so far.
abbrev pub invariant-loop-place : goal.invariant-loop-place
invariant-loop-place l = texts l.names.items ≡ map (λ place. unwrap_or (value l.values.blocks l.values.directive place) []) (take l.place-index l.places)
