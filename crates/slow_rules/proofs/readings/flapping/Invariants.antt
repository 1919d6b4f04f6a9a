use Rattle.std.proofs.Common.{◌≡◌, take, reverse}
use Rattle.due_model.specs.claims.Readings.{flapping}
use Rattle.slow_rules.proofs.readings.flapping.Given as goal

abbrev pub invariant-loop-event : goal.invariant-loop-event
invariant-loop-event l = l.flapping ≡ flapping l.object.0 (reverse (take l.event-index l.events))
