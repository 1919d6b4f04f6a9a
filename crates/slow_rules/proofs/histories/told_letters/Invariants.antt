use Rattle.std.proofs.Common.{◌≡◌, reverse, take}
use Rattle.due_model.specs.claims.Histories.{told_letters}
use Rattle.slow_rules.proofs.histories.told_letters.Given as goal

abbrev pub invariant-loop-outcome : goal.invariant-loop-outcome
invariant-loop-outcome l = l.told ≡ told_letters (reverse (take l.outcome-index l.history))
