use Rattle.event_feed.specs.declared.fault.RefusedLine.{RefusedLine}
use Rattle.command_output.specs.claims.ReportLine.{refused_line}
use Rattle.run_command.proofs.ReportLaws.{line_cut, line_written}
use Rattle.run_command.proofs.feed_lines.write_refused.Goals as goal

pub loop-refusal-preserved : goal.loop-refusal-preserved
loop-refusal-preserved g c =
    line_written (λ (r : RefusedLine). refused_line r.line r.fault) (g.W.Write.contents c.args.writer.now) (g.W.Write.contents c.loop-refusal.writer) (g.W.Write.contents c.write.new.writer)
    c.args.lines.now c.loop-refusal.lines c.args.refused.now c.loop-refusal.refusal-index _ c.loop-refusal-test.true c.loop-refusal.invariant c.write.new.self c.in_ok-write.ensures.ok

pub returns-in_err-write-clause-front : goal.returns-in_err-write-clause-front
returns-in_err-write-clause-front g c =
    line_cut (λ (r : RefusedLine). refused_line r.line r.fault) (g.W.Write.contents c.args.writer.now) (g.W.Write.contents c.loop-refusal.writer) (g.W.Write.contents c.write.new.writer)
    c.args.lines.now c.loop-refusal.lines c.args.refused.now c.loop-refusal.refusal-index _ c.loop-refusal-test.true c.loop-refusal.invariant c.in_err-write.ensures.front
