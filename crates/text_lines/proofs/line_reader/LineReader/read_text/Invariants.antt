use Rattle.std.proofs.Common.{◌≡◌, ◌+◌, ◌≤◌, [], length}
use Rattle.std.specs.Option.{option_copied}
use Rattle.text_lines.specs.LineReader.{to_come}
use Rattle.text_lines.specs.Text.{IsSearched, mark_length, text_limit}
use Rattle.text_lines.proofs.Marks.{IsFront}
use Rattle.text_lines.proofs.line_reader.LineReader.read_text.Given as goal

-- All bytes so far are in the text, and no line of them is the mark.
abbrev pub invariant-loop-call : goal.invariant-loop-call
invariant-loop-call g l = record {
  searched : IsSearched (option_copied l.mark) l.text.items l.search;
  all : l.search.at ≡ length l.text.items;
  none : l.self.held ≡ [];
  front : IsFront (to_come l.fn.self) l.self l.text.items;
  each : l._call ≤ length l.text.items;
  few : length l.text.items ≤ text_limit + mark_length (option_copied l.mark);
  calls : l.self.calls ≤ l.fn.self.calls + l._call;
}
