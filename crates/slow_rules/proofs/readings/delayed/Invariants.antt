use Rattle.std.proofs.Common.{◌≡◌, take, reverse}
use Rattle.due_model.specs.claims.Changes.{delayed}
use Rattle.due_model.specs.claims.Readings.{moment, hard}
use Rattle.slow_rules.proofs.readings.delayed.Given as goal

abbrev pub invariant-loop-event : goal.invariant-loop-event
invariant-loop-event l = record {
  began : l.began ≡ delayed l.config l.object.0 (reverse (take l.event-index l.events));
  greatest : l.greatest ≡ moment (reverse (take l.event-index l.events));
  state : l.state ≡ hard l.object.0 (reverse (take l.event-index l.events));
}
