use Rattle.std.proofs.Common.{◌++◌, flat_map, take}
use Rattle.written.specs.claims.Written.{Leaves}
use Rattle.command_output.specs.claims.ReportLine.{suppression_line}
use Rattle.run_command.proofs.feed_lines.write_log.Given as goal

abbrev pub invariant-loop-suppression : goal.invariant-loop-suppression
invariant-loop-suppression g l =
    Leaves (g.W.Write.contents l.fn.writer) (g.W.Write.contents l.writer) (l.fn.lines ++ flat_map (suppression_line l.config) (take l.suppression-index l.log)) l.lines
