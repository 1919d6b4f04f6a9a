use Rattle.std.proofs.Common.{◌≡◌, reverse, take, IfSome}
use Rattle.due_model.specs.claims.Histories.{last_notice, ready}
use Rattle.slow_rules.specs.Histories.{IsLastInRange}
use Rattle.slow_rules.specs.Retries.{IsRetryInRange, retry_moment}
use Rattle.slow_rules.proofs.histories.last_retry.Given as goal

abbrev pub invariant-loop-outcome : goal.invariant-loop-outcome
invariant-loop-outcome l = record {
  value : retry_moment l.subject.config.now l.subject.zone.now l.subject.object.now l.retry ≡ ready l.subject.config.now l.subject.zone.now l.subject.object.now l.began (reverse (take l.outcome-index l.history));
  retry_in_range : IsRetryInRange l.retry;
  last : l.last ≡ last_notice (reverse (take l.outcome-index l.history));
  in_range : IfSome l.last IsLastInRange;
}
