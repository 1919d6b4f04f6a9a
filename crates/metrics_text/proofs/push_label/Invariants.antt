use Rattle.std.proofs.Common.{◌≡◌, ◌++◌, drop, flat_map}
use Rattle.metrics_text.specs.Text.{escaped}
use Rattle.metrics_text.proofs.push_label.Given as goal

abbrev pub invariant-loop-byte : goal.invariant-loop-byte
invariant-loop-byte l =
    l.text.items ++ flat_map escaped (drop l.byte-index l.value) ≡ l.fn.text.items ++ flat_map escaped l.value
