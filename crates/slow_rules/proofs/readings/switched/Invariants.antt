use Rattle.std.proofs.Common.{◌≡◌, take, reverse}
use Rattle.due_model.specs.claims.Readings.{switched}
use Rattle.slow_rules.proofs.readings.switched.Given as goal

abbrev pub invariant-loop-event : goal.invariant-loop-event
invariant-loop-event l = l.own ≡ switched l.object.0 (reverse (take l.event-index l.events))
