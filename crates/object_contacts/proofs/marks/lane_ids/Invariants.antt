use Rattle.std.proofs.Common.{◌≡◌, map, take}
use Rattle.object_contacts.proofs.marks.lane_ids.Given as goal

-- The lanes of the numbers so far.
abbrev pub invariant-loop-number : goal.invariant-loop-number
invariant-loop-number l = map (λ id. id.0) l.ids.items ≡ take l.number-index l.numbers
