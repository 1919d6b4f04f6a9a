use Rattle.command_output.specs.claims.ReportLine.{suppression_line}
use Rattle.run_command.proofs.ReportLaws.{line_written}
use Rattle.run_command.proofs.line_log.write_each.Goals as goal

pub loop-suppression-preserved : goal.loop-suppression-preserved
loop-suppression-preserved g c = (
  (λ none.
      line_written (suppression_line c.args.config.now) (g.W.Write.contents c.args.writer.now) (g.W.Write.contents c.loop-suppression.writer) (g.W.Write.contents c.write_next-lost.new.writer)
      c.args.lines.now c.loop-suppression.lines c.args.told.now c.loop-suppression.suppression-index _ c.loop-suppression-test.true (c.loop-suppression.invariant.0 (c.write_next-lost.ensures.kept none)) c.write_next-lost.new.lines (c.write_next-lost.ensures.written none)),
  (λ none empty. c.write_next-lost.ensures.empty none),
)
