use Rattle.std.proofs.Common.{length}
use Rattle.command_output.proofs.EntryLaws.{HasWritten}
use Rattle.command_output.proofs.lines.Lines.write_entries.Given as goal

abbrev pub invariant-loop-rest : goal.invariant-loop-rest
invariant-loop-rest g l =
    HasWritten l.config (g.W.Write.contents l.fn.writer) (g.W.Write.contents l.writer) l.fn.self l.entries l.rest l.self

abbrev pub decreases-loop-rest : goal.decreases-loop-rest
decreases-loop-rest g l = length l.rest
