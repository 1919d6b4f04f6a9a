use Rattle.std.proofs.Common.{◌≡◌, take, reverse}
use Rattle.due_model.specs.claims.Readings.{program_on}
use Rattle.slow_rules.proofs.readings.program_on.Given as goal

abbrev pub invariant-loop-event : goal.invariant-loop-event
invariant-loop-event l = l.on ≡ program_on (reverse (take l.event-index l.events))
