use Rattle.std.proofs.Common.{◌≡◌, ◌++◌, flat_map}
use Rattle.std.specs.List.{range_with_len}
use Rattle.filter_values.specs.Tried.{passed_json_at}
use Rattle.filter_values.proofs.tried.push_first.Given as goal

abbrev pub invariant-loop-place : goal.invariant-loop-place
invariant-loop-place l =
    l.text.items ≡ l.fn.text.items ++ flat_map (passed_json_at l.config l.object.0) (range_with_len 0 l.place)
