use Rattle.std.proofs.Common.{◌≡◌, ◌≢◌, ◌+◌, IsSome, length}
use Rattle.channel_queue.specs.Passes.{IsWorker}
use Rattle.channel_queue.specs.Rule.{joined_of, picked_of}
use Rattle.due_model.specs.Items.{notices}
use Rattle.undelivered.specs.declared.Why.TheVariants.{Failed, NoChannel}
use Rattle.delivery_worker.specs.Channels.{records_in}
use Rattle.delivery_worker.specs.Picked.{AreEnds, IsServing, held}
use Rattle.delivery_worker.proofs.ChannelLaws.{HaveSoFar}
use Rattle.delivery_worker.proofs.worker.tend_channels.Given as goal

abbrev pub invariant-loop-place : goal.invariant-loop-place
invariant-loop-place g l =
    IsWorker l.setup.queue.now (picked_of l.pass) (joined_of l.fn.pass) l.pass
    × AreEnds (picked_of l.pass) l.ends
    × IsServing l.lane
    × (held l.lane ≡ notices (picked_of l.pass))
    × (g.B.Bell.count l.bell ≡ g.B.Bell.count l.fn.bell)
    × (l.place ≡ 0 → (l.why ≡ NoChannel) × (l.lane ≡ l.fn.lane))
    × (l.place ≢ 0 → (l.why ≡ Failed) × IsSome l.lane.hand × (length l.lane.ended + 1 ≡ l.place))
    × HaveSoFar g.C.Channel.account g.C.Channel.offered l.setup.tries l.setup.config.now (records_in l.lane) (held l.lane) (l.why ≡ Failed) l.place l.fn.channels.items l.channels.items
