use Rattle.event_feed.proofs.Parts.{ReadsDigits}
use Rattle.event_feed.proofs.line.read_other_digits.Given as goal

-- The bytes so far are digits, and this is their number.
abbrev pub invariant-loop-at : goal.invariant-loop-at
invariant-loop-at l = ReadsDigits l.bytes l.at l.number
