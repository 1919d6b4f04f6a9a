use Rattle.std.proofs.Common.{◌≡◌, take, reverse}
use Rattle.due_model.specs.claims.Readings.{moment}
use Rattle.slow_rules.proofs.readings.moment.Given as goal

abbrev pub invariant-loop-event : goal.invariant-loop-event
invariant-loop-event l = l.greatest ≡ moment (reverse (take l.event-index l.events))
