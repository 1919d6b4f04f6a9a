use Rattle.acceptance_lanes.proofs.Lanes.{open_put}
use Rattle.acceptance_lanes.proofs.queues.fill.Goals as goal

pub loop-event-preserved : goal.loop-event-preserved
loop-event-preserved g c = open_put c.args.queue.now _ _ _ c.in-Ok.next c.item.ensures.decider c.item.ensures.notice c.loop-event.invariant.1 c.in-Ok.ensures.ok
