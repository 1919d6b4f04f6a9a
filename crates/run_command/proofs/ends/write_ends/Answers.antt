use Rattle.std.proofs.Common.{◌++◌, subst}
use Rattle.written.specs.claims.Written.{Leaves, WritesFront}
use Rattle.run_command.specs.Report.{end_lines}
use Rattle.run_command.proofs.ReportLaws.{line_cut, line_written}
use Rattle.run_command.proofs.ends.write_ends.Goals as goal

pub loop-lane-preserved : goal.loop-lane-preserved
loop-lane-preserved g c =
    line_written (end_lines c.args.config.now) (g.W.Write.contents c.args.writer.now) (g.W.Write.contents c.loop-lane.writer) (g.W.Write.contents c.write_end.new.writer)
    c.args.lines.now c.loop-lane.lines c.args.lanes.now c.loop-lane.lane-index c.lane-item.result c.loop-lane-test.true c.loop-lane.invariant c.write_end.new.lines
    (subst (λ lane. Leaves (g.W.Write.contents c.loop-lane.writer) (g.W.Write.contents c.write_end.new.writer) (c.loop-lane.lines ++ end_lines c.args.config.now lane) c.write_end.new.lines) c.lane-item.is c.in_ok-write_end.ensures.ok)

pub returns-in_err-write_end-clause-front : goal.returns-in_err-write_end-clause-front
returns-in_err-write_end-clause-front g c =
    line_cut (end_lines c.args.config.now) (g.W.Write.contents c.args.writer.now) (g.W.Write.contents c.loop-lane.writer) (g.W.Write.contents c.write_end.new.writer)
    c.args.lines.now c.loop-lane.lines c.args.lanes.now c.loop-lane.lane-index c.lane-item.result c.loop-lane-test.true c.loop-lane.invariant
    (subst (λ lane. WritesFront (g.W.Write.contents c.loop-lane.writer) (g.W.Write.contents c.write_end.new.writer) (c.loop-lane.lines ++ end_lines c.args.config.now lane)) c.lane-item.is c.in_err-write_end.ensures.front)
