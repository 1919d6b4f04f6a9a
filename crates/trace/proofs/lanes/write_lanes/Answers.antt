use Rattle.std.proofs.Common.{ap, arith, length}
use Rattle.due_model.specs.declared.config.Config.{Config}
use Rattle.world_steps.specs.claims.Views.{world_setup, world_state}
use Rattle.trace.specs.LaneLines.{lane_lines}
use Rattle.lemmas.proofs.Results.{on_err_always}
use Rattle.trace.proofs.LaneLaws.{lines_front, lines_more}
use Rattle.trace.proofs.lanes.write_lanes.Goals as goal

pub loop-lane-preserved : goal.loop-lane-preserved
loop-lane-preserved g c =
    lines_more (lane_lines (world_setup c.args.run.now.world) (world_state c.args.run.now.world)) c.loop-lane.lane (g.W.Write.contents c.args.writer.now)
    (g.W.Write.contents c.loop-lane.writer) (g.W.Write.contents c.write_lane.new.writer) c.args.lines.now c.loop-lane.lines c.write_lane.new.lines
    c.loop-lane.invariant c.in_ok-write_lane.ensures.ok

pub returns-in_err-write_lane-clause-front : goal.returns-in_err-write_lane-clause-front
returns-in_err-write_lane-clause-front g c =
    on_err_always _ (lines_front (lane_lines (world_setup c.args.run.now.world) (world_state c.args.run.now.world)) c.loop-lane.lane
    (length (world_setup c.args.run.now.world).config.lanes) (g.W.Write.contents c.args.writer.now)
    (g.W.Write.contents c.loop-lane.writer) (g.W.Write.contents c.write_lane.new.writer) c.args.lines.now c.loop-lane.lines
    (omega (arith, c.loop-lane-test.true, ap (λ (x : Config). length x.lanes) c.requires.fits.config)) c.loop-lane.invariant c.in_err-write_lane.ensures.front)
