use Rattle.std.proofs.Common.{◌≡◌, ◌++◌, drop, flat_map}
use Rattle.night_picture.specs.Shapes.{escaped}
use Rattle.night_picture.proofs.shapes.push_text.Given as goal

abbrev pub invariant-loop-byte : goal.invariant-loop-byte
invariant-loop-byte l = l.text.items ++ flat_map escaped (drop l.byte-index l.bytes) ≡ l.fn.text.items ++ flat_map escaped l.bytes
