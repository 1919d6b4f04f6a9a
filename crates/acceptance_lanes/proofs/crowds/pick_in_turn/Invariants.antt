use Rattle.channel_queue.specs.Passes.{IsWorker}
use Rattle.channel_queue.specs.Rule.{joined_of, picked_of}
use Rattle.acceptance_lanes.proofs.crowds.pick_in_turn.Given as goal

abbrev pub invariant-loop-turn : goal.invariant-loop-turn
invariant-loop-turn g l = IsWorker l.queue (picked_of l.worker) (joined_of l.fn.worker) l.worker
