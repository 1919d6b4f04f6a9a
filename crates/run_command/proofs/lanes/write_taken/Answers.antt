use Rattle.command_output.specs.claims.RunLine.{taken_line}
use Rattle.run_command.proofs.ReportLaws.{line_cut, line_written}
use Rattle.run_command.proofs.lanes.write_taken.Goals as goal

pub loop-notice-preserved : goal.loop-notice-preserved
loop-notice-preserved g c =
    line_written (taken_line c.args.config.now c.args.lane.0) (g.W.Write.contents c.args.writer.now) (g.W.Write.contents c.loop-notice.writer) (g.W.Write.contents c.write.new.writer)
    c.args.lines.now c.loop-notice.lines c.args.taken.now c.loop-notice.notice-index _ c.loop-notice-test.true c.loop-notice.invariant c.write.new.self c.in_ok-write.ensures.ok

pub returns-in_err-write-clause-front : goal.returns-in_err-write-clause-front
returns-in_err-write-clause-front g c =
    line_cut (taken_line c.args.config.now c.args.lane.0) (g.W.Write.contents c.args.writer.now) (g.W.Write.contents c.loop-notice.writer) (g.W.Write.contents c.write.new.writer)
    c.args.lines.now c.loop-notice.lines c.args.taken.now c.loop-notice.notice-index _ c.loop-notice-test.true c.loop-notice.invariant c.in_err-write.ensures.front
