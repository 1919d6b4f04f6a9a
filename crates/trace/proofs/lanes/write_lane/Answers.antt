use Rattle.std.proofs.Common.{ap, arith, length}
use Rattle.due_model.specs.declared.config.Config.{Config}
use Rattle.world_steps.specs.claims.Views.{world_setup, world_state}
use Rattle.trace.specs.LaneLines.{held_text}
use Rattle.lemmas.proofs.Results.{on_err_always}
use Rattle.trace.proofs.LaneLaws.{lines_front, lines_more}
use Rattle.trace.proofs.lanes.write_lane.Goals as goal

pub loop-object-preserved : goal.loop-object-preserved
loop-object-preserved g c =
    lines_more (held_text (world_setup c.args.run.now.world) (world_state c.args.run.now.world) c.args.lane.0) c.loop-object.object (g.W.Write.contents c.args.writer.now)
    (g.W.Write.contents c.loop-object.writer) (g.W.Write.contents c.write_object.new.writer) c.args.lines.now c.loop-object.lines c.write_object.new.lines
    c.loop-object.invariant c.in_ok-write_object.ensures.ok

pub returns-in_err-write_object-clause-front : goal.returns-in_err-write_object-clause-front
returns-in_err-write_object-clause-front g c =
    on_err_always _ (lines_front (held_text (world_setup c.args.run.now.world) (world_state c.args.run.now.world) c.args.lane.0) c.loop-object.object
    (length (world_setup c.args.run.now.world).config.objects) (g.W.Write.contents c.args.writer.now)
    (g.W.Write.contents c.loop-object.writer) (g.W.Write.contents c.write_object.new.writer) c.args.lines.now c.loop-object.lines
    (omega (arith, c.loop-object-test.true, ap (λ (x : Config). length x.objects) c.requires.fits.config)) c.loop-object.invariant c.write_object.ensures.front)
