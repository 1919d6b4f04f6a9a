use Rattle.std.proofs.Common.{◌≡◌, ◌++◌, flat_map}
use Rattle.std.specs.List.{range_with_len}
use Rattle.filter_values.specs.Values.{passed_at}
use Rattle.filter_values.proofs.values.push_first_passed.Given as goal

abbrev pub invariant-loop-place : goal.invariant-loop-place
invariant-loop-place l =
    l.text.items ≡ l.fn.text.items ++ flat_map (passed_at l.config l.object.0) (range_with_len 0 l.place)
