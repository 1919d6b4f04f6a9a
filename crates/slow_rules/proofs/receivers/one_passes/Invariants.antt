use Rattle.std.proofs.Common.{◌≡◌, take}
use Rattle.std.specs.List.{list_any}
use Rattle.due_model.specs.claims.Receivers.{passes}
use Rattle.slow_rules.proofs.receivers.one_passes.Given as goal

-- Whether the filters of one so far pass.
abbrev pub invariant-loop-contact : goal.invariant-loop-contact
invariant-loop-contact l = l.found ≡ list_any (λ contact. passes l.subject.config.now l.subject.zone.now l.subject.object.now l.attempt l.told contact.0) (take l.contact-index l.contacts)
