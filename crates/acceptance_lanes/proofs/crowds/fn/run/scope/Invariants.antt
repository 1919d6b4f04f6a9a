use Rattle.std.proofs.Common.{◌≤◌, length}
use Rattle.channel_queue.specs.Passes.{IsWorker}
use Rattle.channel_queue.specs.Rule.{joined_of, picked_of}
use Rattle.acceptance_lanes.specs.Deciders.{AreDeciders}
use Rattle.acceptance_lanes.proofs.crowds.fn.run.scope.Given as goal

abbrev pub invariant-loop : goal.invariant-loop
invariant-loop g l = AreDeciders l.queue l.passes.items × (length l.passes.items ≤ 8) × IsWorker l.queue (picked_of l.worker) (joined_of l.worker) l.worker
