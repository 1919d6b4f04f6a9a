use Rattle.std.proofs.Common.{◌≡◌, ◌++◌, filter, take}
use Rattle.due_model.specs.claims.Escalations.{matches}
use Rattle.slow_rules.specs.Escalated.{has_some, named_by}
use Rattle.slow_rules.proofs.escalations.name_matching.Given as goal

-- They are those of the escalations so far.
abbrev pub invariant-loop-escalation : goal.invariant-loop-escalation
invariant-loop-escalation l = record {
  some : l.some ≡ has_some (filter (matches l.subject.config.now l.subject.zone.now l.subject.id.0 l.notification.number l.notification.letter l.notification.moment) (take l.escalation-index l.subject.config.now.escalations));
  named : l.named.items ≡ l.initial.named.items ++ named_by (filter (matches l.subject.config.now l.subject.zone.now l.subject.id.0 l.notification.number l.notification.letter l.notification.moment) (take l.escalation-index l.subject.config.now.escalations));
}
