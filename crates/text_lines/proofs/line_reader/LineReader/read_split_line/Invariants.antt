use Rattle.std.proofs.Common.{◌≡◌, ◌+◌, ◌<◌, ◌≤◌, length}
use Rattle.text_lines.specs.claims.CountedReader.{calls_after}
use Rattle.text_lines.specs.claims.LineReader.{byte_limit}
use Rattle.text_lines.specs.LineReader.{line_limit}
use Rattle.text_lines.specs.Lines.{IsUnbroken}
use Rattle.text_lines.proofs.ReadLines.{OnTheWay}
use Rattle.text_lines.proofs.line_reader.LineReader.read_split_line.Given as goal

-- No newline has come yet, and each call gave a byte.
abbrev pub invariant-loop-call : goal.invariant-loop-call
invariant-loop-call g l = record {
  way : OnTheWay l.initial.self l.skipped l.self;
  held : IsUnbroken l.self.held;
  few : l.skipped ≤ byte_limit;
  many : 0 < l.skipped → line_limit < l.skipped;
  each : l._call ≤ l.skipped + length l.self.held;
  none : l._call ≡ 0 → l.self.calls ≡ l.initial.self.calls;
  calls : 0 < l._call → l.self.calls ≡ calls_after l.initial.self.calls l._call;
  least : calls_after l.initial.self.calls 0 ≤ l.self.calls;
}
