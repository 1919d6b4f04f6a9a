use Rattle.std.proofs.Common.{◌≡◌, ◌++◌, take}
use Rattle.object_listing.proofs.numbers.push_members.Given as goal

-- The numbers and the members so far.
abbrev pub invariant-loop-member : goal.invariant-loop-member
invariant-loop-member l = l.numbers.items ≡ l.initial.numbers.items ++ take l.member-index l.members
