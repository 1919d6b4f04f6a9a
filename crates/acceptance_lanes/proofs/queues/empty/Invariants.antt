use Rattle.std.proofs.Common.{[]}
use Rattle.channel_queue.specs.Passes.{IsWorker}
use Rattle.channel_queue.specs.Rule.{picked_of}
use Rattle.acceptance_lanes.proofs.queues.empty.Given as goal

abbrev pub invariant-loop-event : goal.invariant-loop-event
invariant-loop-event g l = IsWorker l.queue (picked_of l.worker) [] l.worker
