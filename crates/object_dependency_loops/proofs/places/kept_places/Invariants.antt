use Rattle.std.proofs.Common.{◌≡◌}
use Rattle.object_dependency_loops.specs.Places.{kept_in}
use Rattle.object_dependency_loops.proofs.places.kept_places.Given as goal

-- The places among the blocks so far.
abbrev pub invariant-loop-place : goal.invariant-loop-place
invariant-loop-place l = l.places.items ≡ kept_in l.blocks.blocks l.kind l.place
