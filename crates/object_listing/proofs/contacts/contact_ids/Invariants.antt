use Rattle.std.proofs.Common.{◌≡◌, map, take}
use Rattle.object_listing.proofs.contacts.contact_ids.Given as goal

-- The contacts so far.
abbrev pub invariant-loop-number : goal.invariant-loop-number
invariant-loop-number l = map (λ id. id.0) l.ids.items ≡ take l.number-index l.numbers
