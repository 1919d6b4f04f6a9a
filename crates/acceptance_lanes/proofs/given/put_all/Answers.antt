use Rattle.acceptance_lanes.proofs.Lanes.{open_put}
use Rattle.acceptance_lanes.proofs.given.put_all.Goals as goal

pub loop-event-preserved : goal.loop-event-preserved
loop-event-preserved g c = open_put c.args.queue.now _ _ _ c.put_in_turn-pass.result c.item-item.ensures.decider c.item-item.ensures.notice c.loop-event.invariant.1 c.put_in_turn-pass.ensures
