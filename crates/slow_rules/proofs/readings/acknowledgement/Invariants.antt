use Rattle.std.proofs.Common.{◌≡◌, take, reverse}
use Rattle.due_model.specs.claims.Acknowledgements.{acknowledgement}
use Rattle.due_model.specs.claims.Readings.{hard}
use Rattle.slow_rules.proofs.readings.acknowledgement.Given as goal

abbrev pub invariant-loop-event : goal.invariant-loop-event
invariant-loop-event l = record {
  acknowledged : l.acknowledged ≡ acknowledgement l.object.0 (reverse (take l.event-index l.events));
  state : l.state ≡ hard l.object.0 (reverse (take l.event-index l.events));
}
