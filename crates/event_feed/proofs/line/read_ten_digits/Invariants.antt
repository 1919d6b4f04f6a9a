use Rattle.event_feed.proofs.Parts.{ReadsTen}
use Rattle.event_feed.proofs.line.read_ten_digits.Given as goal

-- The number of the digits so far.
abbrev pub invariant-loop-digit : goal.invariant-loop-digit
invariant-loop-digit l = ReadsTen l.digits l.digit-index l.number
