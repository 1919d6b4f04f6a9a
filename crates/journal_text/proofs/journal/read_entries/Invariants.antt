use Rattle.std.proofs.Common.{◌+◌, ◌-◌, ◌≡◌}
use Rattle.text_lines.specs.LineReader.{to_come}
use Rattle.text_lines.specs.claims.Lines.{Known}
use Rattle.journal_text.specs.Told.{Comes}
use Rattle.journal_text.proofs.journal.read_entries.Given as goal

abbrev pub invariant-loop-number : goal.invariant-loop-number
invariant-loop-number g l =
    Known (to_come l.fn.lines) (to_come l.lines) (λ bytes rest. Comes l.config l.lane bytes rest l.number l.fn.read l.read)

abbrev pub decreases-loop-number : goal.decreases-loop-number
decreases-loop-number g l = 4294967296 + 1 - l.number
