use Rattle.std.proofs.Common.{◌≡◌, map, filter}
use Rattle.std.specs.List.{range_with_len}
use Rattle.due_model.specs.claims.Escalations.{has_contact}
use Rattle.slow_rules.specs.Notices.{number_of_contact}
use Rattle.slow_rules.proofs.receivers.contacts_with.Given as goal

abbrev pub invariant-loop-number : goal.invariant-loop-number
invariant-loop-number l = map number_of_contact l.found.items ≡ filter (has_contact l.named) (range_with_len 0 l.number)
