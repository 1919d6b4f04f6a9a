use Rattle.command_output.specs.claims.ReportLine.{suppression_line}
use Rattle.run_command.proofs.ReportLaws.{line_cut, line_written}
use Rattle.run_command.proofs.feed_lines.write_log.Goals as goal

pub loop-suppression-preserved : goal.loop-suppression-preserved
loop-suppression-preserved g c =
    line_written (suppression_line c.args.config.now) (g.W.Write.contents c.args.writer.now) (g.W.Write.contents c.loop-suppression.writer) (g.W.Write.contents c.write.new.writer)
    c.args.lines.now c.loop-suppression.lines c.args.log.now c.loop-suppression.suppression-index _ c.loop-suppression-test.true c.loop-suppression.invariant c.write.new.self c.in_ok-write.ensures.ok

pub returns-in_err-write-clause-front : goal.returns-in_err-write-clause-front
returns-in_err-write-clause-front g c =
    line_cut (suppression_line c.args.config.now) (g.W.Write.contents c.args.writer.now) (g.W.Write.contents c.loop-suppression.writer) (g.W.Write.contents c.write.new.writer)
    c.args.lines.now c.loop-suppression.lines c.args.log.now c.loop-suppression.suppression-index _ c.loop-suppression-test.true c.loop-suppression.invariant c.in_err-write.ensures.front
