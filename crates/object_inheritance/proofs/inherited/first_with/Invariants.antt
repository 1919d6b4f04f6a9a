use Rattle.std.proofs.Common.{◌≡◌, None, drop, get_or}
use Rattle.std.specs.Prelude.{find, is_some}
use Rattle.object_inheritance.proofs.inherited.first_with.Given as goal

-- The first is among those that are left.
abbrev pub invariant-loop-place : goal.invariant-loop-place
invariant-loop-place l = find (λ q. is_some (get_or l.column q None)) l.places ≡ find (λ q. is_some (get_or l.column q None)) (drop l.place-index l.places)
