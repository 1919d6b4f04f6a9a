use Rattle.std.proofs.Common.{◌≡◌, ◌++◌, map, take, flat_map}
use Rattle.due_model.specs.claims.Due.{notice_to, refusal_of}
use Rattle.slow_rules.specs.Notices.{number_of_contact}
use Rattle.slow_rules.proofs.notices.add_each.Given as goal

abbrev pub invariant-loop-contact : goal.invariant-loop-contact
invariant-loop-contact l = record {
  due : l.answers.due.items ≡ l.initial.answers.due.items ++ flat_map (notice_to l.subject.config.now l.subject.zone.now l.subject.id.0 l.subject.object.now l.lane.0 l.message.event l.message.number l.message.attempt l.message.told) (map number_of_contact (take l.contact-index l.receivers));
  suppressed : l.answers.suppressed.items ≡ l.initial.answers.suppressed.items ++ flat_map (refusal_of l.subject.config.now l.subject.zone.now l.subject.id.0 l.subject.object.now l.message.event l.message.number l.message.attempt l.message.told) (map number_of_contact (take l.contact-index l.receivers));
}
