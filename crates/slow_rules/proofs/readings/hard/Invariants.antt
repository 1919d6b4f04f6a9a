use Rattle.std.proofs.Common.{◌≡◌, take, reverse}
use Rattle.due_model.specs.claims.Readings.{hard}
use Rattle.slow_rules.proofs.readings.hard.Given as goal

abbrev pub invariant-loop-event : goal.invariant-loop-event
invariant-loop-event l = l.state ≡ hard l.object.0 (reverse (take l.event-index l.events))
