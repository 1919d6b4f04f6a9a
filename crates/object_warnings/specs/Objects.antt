-- Hosts and services of whose problems nobody is told (chapters "Notifications" and "Notification Escalations").
use Rattle.std.specs.Prelude.{ℕ, Bool, false, not, ◌==◌, ◌&&◌, ◌||◌, length, None, Some, slice_get}
use Rattle.std.specs.List.{list_any}
use Rattle.std.specs.Option.{option_map_or}
use Rattle.due_model.specs.ByObject.{places_of}
use Rattle.due_model.specs.declared.config.Config.{Config}
use Rattle.due_model.specs.declared.config.Contact.{Contact}
use Rattle.due_model.specs.declared.config.ContactId.{ContactId}
use Rattle.due_model.specs.declared.config.Object.{Object}
use Rattle.due_model.specs.declared.config.Rights.{Rights}
use Rattle.due_model.specs.declared.options.OptionLetters.{OptionLetters}

-- whether there is any of the letters
abbrev pub has_some_letter : OptionLetters → Bool
has_some_letter set = set.down || set.unreachable || set.warning || set.unknown || set.critical
    || set.recovery || set.flapping || set.downtime

-- An object can notify where its notifications are enabled and its options have a letter.
abbrev pub can_notify : Object → Bool
can_notify object = object.enabled && has_some_letter object.options

-- ---- NobodyTold: an object that can notify has no contact, or none with a command for its kind

-- what a contact is notified of for the object's kind
abbrev pub rights_of : Object → Contact → Rights
rights_of object contact = elim object.host as (λ _. Rights) [
  | None ↦ contact.hosts
  | Some host ↦ contact.services
]

-- whether the contact of that number has a command for the object's kind
abbrev pub has_command : Config → Object → ContactId → Bool
has_command c object contact = option_map_or
    (λ found. not (length (rights_of object found).lanes == 0)) (slice_get c.contacts contact.0) false

-- whether one of the contacts of the escalation at the place has
abbrev pub tells_by : Config → Object → (place : ℕ) → Bool
tells_by c object place = option_map_or
    (λ escalation. list_any (has_command c object) escalation.contacts)
    (slice_get c.escalations place) false

-- whether a contact with such a command is the object's own, or one of an escalation of object o
abbrev pub is_told : Config → (o : ℕ) → Object → Bool
is_told c o object = list_any (has_command c object) object.contacts
    || list_any (tells_by c object) (places_of c.escalations o)

abbrev pub tells_nobody : Config → (o : ℕ) → Object → Bool
tells_nobody c o object = can_notify object && not (is_told c o object)

-- object o can notify, and tells nobody
abbrev pub tells_nobody_at : Config → (o : ℕ) → Bool
tells_nobody_at c o = option_map_or (tells_nobody c o) (slice_get c.objects o) false

-- ---- MissingOption: an object whose options lack its problem letters altogether

-- DOWN and UNREACHABLE of a host; WARNING, UNKNOWN and CRITICAL of a service
abbrev pub lacks_problems : Object → Bool
lacks_problems object = elim object.host as (λ _. Bool) [
  | None ↦ not (object.options.down || object.options.unreachable)
  | Some host ↦ not (object.options.warning || object.options.unknown || object.options.critical)
]

-- the same of object o
abbrev pub lacks_problems_at : Config → (o : ℕ) → Bool
lacks_problems_at c o = option_map_or lacks_problems (slice_get c.objects o) false
