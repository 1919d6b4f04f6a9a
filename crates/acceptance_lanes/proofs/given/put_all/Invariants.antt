use Rattle.channel_queue.specs.Passes.{IsDecider}
use Rattle.channel_queue.specs.Rule.{IsOpen, put_of}
use Rattle.acceptance_lanes.proofs.given.put_all.Given as goal

abbrev pub invariant-loop-event : goal.invariant-loop-event
invariant-loop-event g l = IsDecider l.queue l.decider (put_of l.pass) l.pass × IsOpen (put_of l.pass)
