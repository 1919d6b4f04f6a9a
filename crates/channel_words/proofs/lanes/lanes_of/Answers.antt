use Rattle.channel_words.proofs.LaneLaws.{few_channels}
use Rattle.channel_words.proofs.lanes.lanes_of.Goals as goal

pub returns-in-Some-clause-fault : goal.returns-in-Some-clause-fault
returns-in-Some-clause-fault c = (c.in_ok-lanes.ensures.known, c.in-Some.ensures.some)

pub returns-in-None-clause-ok : goal.returns-in-None-clause-ok
returns-in-None-clause-ok c = record {
  each = c.in_ok-lanes.ensures.ok;
  few = c.in-None.ensures.none;
  few_lanes = few_channels c.args.config.now _ c.in_ok-lanes.lanes.items c.in_ok-lanes.ensures.ok c.in-None.ensures.none;
}
