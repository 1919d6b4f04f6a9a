use Rattle.std.proofs.Common.{◌≡◌, ◌++◌, take}
use Rattle.escalation.specs.Matching.{applying}
use Rattle.escalation.specs.Named.{has_some, named_by}
use Rattle.escalation.proofs.contacts.name_applying.Given as goal

-- Whom those so far name.
abbrev pub invariant-loop-place : goal.invariant-loop-place
invariant-loop-place l = record {
  some : l.some ≡ has_some (applying l.config l.zone l.number l.letter l.t (take l.place-index l.places));
  named : l.named.items ≡ l.fn.named.items ++ named_by (applying l.config l.zone l.number l.letter l.t (take l.place-index l.places));
}
