use Rattle.std.proofs.Common.{◌≡◌, filter, take}
use Rattle.due_model.specs.claims.Escalations.{matches}
use Rattle.slow_rules.specs.Escalated.{least_of}
use Rattle.slow_rules.proofs.escalations.least_interval.Given as goal

-- It is the least of those so far.
abbrev pub invariant-loop-escalation : goal.invariant-loop-escalation
invariant-loop-escalation l =
    l.least ≡ least_of (filter (matches l.subject.config.now l.subject.zone.now l.subject.id.0 l.notification.number l.notification.letter l.notification.moment) (take l.escalation-index l.subject.config.now.escalations))
