use Rattle.std.proofs.Common.{◌≡◌, ◌++◌, length}
use Rattle.json_report.specs.Lines.{after_bytes, bytes_text}
use Rattle.json_report.proofs.line.Line.push_bytes.Given as goal

-- What was added and what is still to be added, and the place after all.
abbrev pub invariant-loop-left : goal.invariant-loop-left
invariant-loop-left l = record {
  text : l.text.items ++ bytes_text l.clock l.self l.left ≡ l.fn.text.items ++ bytes_text l.clock l.fn.self l.bytes;
  place : after_bytes l.self l.left ≡ after_bytes l.fn.self l.bytes;
}

abbrev pub decreases-loop-left : goal.decreases-loop-left
decreases-loop-left l = length l.left
