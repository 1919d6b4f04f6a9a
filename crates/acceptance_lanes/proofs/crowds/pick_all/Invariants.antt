use Rattle.channel_queue.specs.Passes.{IsWorker}
use Rattle.channel_queue.specs.Rule.{joined_of, picked_of}
use Rattle.acceptance_lanes.proofs.crowds.pick_all.Given as goal

abbrev pub invariant-loop-item : goal.invariant-loop-item
invariant-loop-item g l = IsWorker l.queue (picked_of l.worker) (joined_of l.worker) l.worker
