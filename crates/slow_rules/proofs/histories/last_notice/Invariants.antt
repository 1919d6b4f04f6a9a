use Rattle.std.proofs.Common.{◌≡◌, reverse, take, All, IfSome}
use Rattle.due_model.specs.claims.Histories.{last_notice}
use Rattle.slow_rules.specs.Histories.{IsInRange, IsLastInRange}
use Rattle.slow_rules.proofs.histories.last_notice.Given as goal

abbrev pub invariant-loop-outcome : goal.invariant-loop-outcome
invariant-loop-outcome l = record {
  value : l.last ≡ last_notice (reverse (take l.outcome-index l.history));
  in_range : All IsInRange l.history → IfSome l.last IsLastInRange;
}
