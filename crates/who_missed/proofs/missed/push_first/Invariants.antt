use Rattle.std.proofs.Common.{◌≡◌, ◌++◌, flat_map}
use Rattle.std.specs.List.{range_with_len}
use Rattle.who_missed.specs.Missed.{missed_line}
use Rattle.who_missed.proofs.missed.push_first.Given as goal

abbrev pub invariant-loop-number : goal.invariant-loop-number
invariant-loop-number l =
    l.text.items ≡ l.fn.text.items ++ flat_map (missed_line l.form.form l.config l.clock l.object.0 l.until l.lines) (range_with_len 0 l.number)
