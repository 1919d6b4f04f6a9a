use Rattle.std.proofs.Common.{◌≤◌, arith}
use Rattle.world_steps.proofs.ChannelLaws.{channels_kept}
use Rattle.world_steps.proofs.OrderLaws.{order_kept}
use Rattle.world_steps.proofs.laws.lanes_fit.Goals as goal

pub returns-clause-lanes : goal.returns-clause-lanes
returns-clause-lanes c = λ s served steps l long can.
    let some : 1 ≤ s.settings.deciders = s.settings.in_range.number.0 in
    (order_kept c.tell_of_events.ensures.events s served steps l long can, λ k d within. omega (arith, some))

pub returns-clause-outboxes : goal.returns-clause-outboxes
returns-clause-outboxes c = channels_kept c.tell_of_events.ensures.events
