use Rattle.std.proofs.Common.{◌≡◌, false, filter, get_or}
use Rattle.std.specs.List.{range_with_len}
use Rattle.object_contacts.proofs.marks.marked_numbers.Given as goal

-- The marked numbers so far.
abbrev pub invariant-loop-number : goal.invariant-loop-number
invariant-loop-number l = l.numbers.items ≡ filter (λ number. get_or l.marks number false) (range_with_len 0 l.number)
