use Rattle.std.proofs.Common.{◌≡◌, ◌++◌, flat_map}
use Rattle.std.specs.List.{range_with_len}
use Rattle.who_missed.specs.Missed.{escalation_of}
use Rattle.who_missed.proofs.reasons.push_escalations.Given as goal

abbrev pub invariant-loop-index : goal.invariant-loop-index
invariant-loop-index l =
    l.text.items ≡ l.fn.text.items ++ flat_map (escalation_of l.config l.object.0 l.contact.0 l.until l.lines) (range_with_len 0 l.index)
