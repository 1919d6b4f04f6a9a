use Rattle.std.proofs.Common.{◌≡◌, ◌++◌, flat_map}
use Rattle.std.specs.List.{range_with_len}
use Rattle.why_told.specs.Missing.{missing_at}
use Rattle.why_told.proofs.missing.push_first_missing.Given as goal

abbrev pub invariant-loop-number : goal.invariant-loop-number
invariant-loop-number l =
    l.text.items ≡ l.fn.text.items ++ flat_map (missing_at l.asked l.config l.object.0 l.event l.lines) (range_with_len 0 l.number)
