use Rattle.std.proofs.Common.{◌≡◌, ◌+◌, min, take}
use Rattle.event_feed.specs.claims.Line.{digits_number}
use Rattle.event_feed.proofs.line.read_number.Given as goal

-- The number of the digits so far, up to the first number past the range.
abbrev pub invariant-loop-digit : goal.invariant-loop-digit
invariant-loop-digit l = l.number ≡ min (digits_number (take l.digit-index l.digits)) (l.most + 1)
