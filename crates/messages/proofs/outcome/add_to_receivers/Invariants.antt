use Rattle.std.proofs.Common.{◌≡◌, ◌++◌, take, flat_map}
use Rattle.std.specs.List.{list_any}
use Rattle.messages.specs.Message.{message_entries, message_passes}
use Rattle.messages.proofs.outcome.add_to_receivers.Given as goal

abbrev pub invariant-loop-contact : goal.invariant-loop-contact
invariant-loop-contact l = record {
  added : l.entries.items ≡ l.fn.entries.items ++ flat_map (λ contact. message_entries l.config l.message contact.0) (take l.contact-index l.receivers);
  passes : l.one_passes ≡ list_any (λ contact. message_passes l.config l.message contact.0) (take l.contact-index l.receivers);
}
