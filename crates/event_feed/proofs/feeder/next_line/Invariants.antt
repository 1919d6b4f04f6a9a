use Rattle.std.proofs.Common.{◌≡◌, ◌+◌, ◌-◌, ◌*◌, ◌≤◌}
use Rattle.text_lines.specs.claims.CountedReader.{calls_after}
use Rattle.text_lines.specs.claims.LineReader.{call_limit}
use Rattle.event_feed.proofs.Answering.{Skips, StaysHeld}
use Rattle.event_feed.proofs.feeder.next_line.Given as goal

-- So far there were empty lines, which answer nothing, and where a line was held, they were held too. Each took no more
-- calls than it may.
abbrev pub invariant-loop-read : goal.invariant-loop-read
invariant-loop-read g l = record {
  skips : Skips l.initial.lines l.initial.line l.lines l.read;
  same : l.line ≡ l.read;
  later : l.initial.line ≤ l.read;
  held : StaysHeld l.initial.lines l.lines;
  calls : l.lines.calls ≤ l.initial.lines.calls + call_limit * (l.read - l.initial.line);
  least : calls_after l.initial.lines.calls 0 ≤ l.lines.calls;
}
