use Rattle.std.proofs.Common.{◌≡◌, ◌+◌, min, take}
use Rattle.due_model.specs.claims.Limits.{max_number}
use Rattle.object_values.specs.claims.Values.{number_of}
use Rattle.object_values.proofs.values.number_of.Given as goal

-- The number of the digits so far, up to the first number past the range.
abbrev pub invariant-loop-digit : goal.invariant-loop-digit
invariant-loop-digit l = l.number ≡ min (number_of (take l.digit-index l.digits)) (max_number + 1)
