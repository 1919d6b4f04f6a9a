use Rattle.std.proofs.Common.{◌≡◌, ◌≤◌, take, reverse}
use Rattle.due_model.specs.claims.Readings.{depth}
use Rattle.slow_rules.proofs.readings.depth.Given as goal

abbrev pub invariant-loop-event : goal.invariant-loop-event
invariant-loop-event l = record {
  value : l.depth ≡ depth l.object.0 (reverse (take l.event-index l.events));
  few : l.depth ≤ l.event-index;
}
