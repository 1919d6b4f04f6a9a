use Rattle.std.proofs.Common.{◌≡◌, take}
use Rattle.escalation.specs.Matching.{applying, least_of}
use Rattle.escalation.proofs.interval.least_interval.Given as goal

-- It is the least of those so far.
abbrev pub invariant-loop-place : goal.invariant-loop-place
invariant-loop-place l = l.least ≡ least_of (applying l.config l.zone l.number l.letter l.t (take l.place-index l.places))
