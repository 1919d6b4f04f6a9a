use Rattle.std.proofs.Common.{◌++◌}
use Rattle.command_output.specs.claims.ReportLine.{suppression_line}
use Rattle.run_command.proofs.LoggedLaws.{made_more}
use Rattle.run_command.proofs.line_log.write_line.Goals as goal

pub returns-clause-ok : goal.returns-clause-ok
returns-clause-ok g c =
    made_more (g.W.Write.contents c.args.writer.now) (g.W.Write.contents c.write.new.writer) (g.W.Write.contents c.flush.new.writer) (c.args.lines.now ++ suppression_line c.args.config.now c.args.suppression.now) c.write.new.self c.flush.new.self c.flush.result c.in_ok-write.ensures.ok c.flush.ensures.ok c.flush.ensures.empty
