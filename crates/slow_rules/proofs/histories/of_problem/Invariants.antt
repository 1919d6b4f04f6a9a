use Rattle.std.proofs.Common.{◌≡◌, ◌≤◌, reverse, take, drop}
use Rattle.due_model.specs.claims.Readings.{hard}
use Rattle.due_model.specs.claims.Histories.{of_problem}
use Rattle.slow_rules.proofs.histories.of_problem.Given as goal

abbrev pub invariant-loop-index : goal.invariant-loop-index
invariant-loop-index l = record {
  within : l.start ≤ l.index;
  value : reverse (drop l.start (take l.index l.history)) ≡ of_problem l.object.0 (reverse (take l.index l.events)) (reverse (take l.index l.history));
  state : l.state ≡ hard l.object.0 (reverse (take l.index l.events));
}
