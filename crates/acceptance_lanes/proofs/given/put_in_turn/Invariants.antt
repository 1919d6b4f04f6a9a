use Rattle.std.proofs.Common.{◌≡◌}
use Rattle.due_model.specs.Items.{decider_of}
use Rattle.channel_queue.specs.Passes.{IsDecider}
use Rattle.channel_queue.specs.Rule.{put_of}
use Rattle.acceptance_lanes.proofs.given.put_in_turn.Given as goal

abbrev pub invariant-loop-turn : goal.invariant-loop-turn
invariant-loop-turn g l = IsDecider l.queue (decider_of l.item) (put_of l.pass) l.pass × (put_of l.pass ≡ put_of l.fn.pass)
