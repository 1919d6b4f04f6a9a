use Rattle.std.proofs.Common.{◌≡◌, ◌≤◌, reverse, take}
use Rattle.due_model.specs.claims.Histories.{notices_sent}
use Rattle.slow_rules.proofs.histories.notices_sent.Given as goal

abbrev pub invariant-loop-outcome : goal.invariant-loop-outcome
invariant-loop-outcome l = record {
  value : l.sent ≡ notices_sent (reverse (take l.outcome-index l.history));
  few : l.sent ≤ l.outcome-index;
}
