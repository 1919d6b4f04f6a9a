-- Escalations: who is notified, and when again.
use Rattle.std.specs.Prelude.{ℕ, ◌*◌, min, Bool, ◌&&◌, ◌||◌, List, [], ◌∷◌, length, filter, fold, nat_le, ◌==◌}
use Rattle.std.specs.List.{list_any, range_with_len}
use Rattle.due_model.specs.declared.config.Config.{Config}
use Rattle.due_model.specs.declared.config.ContactId.{ContactId}
use Rattle.due_model.specs.declared.config.Escalation.{Escalation}
use Rattle.due_model.specs.declared.config.Object.{Object}
use Rattle.due_model.specs.declared.options.OptionLetter.{OptionLetter}
use Rattle.due_model.specs.declared.zone.Zone.{Zone}
use Rattle.due_model.specs.claims.Periods.{in_period}
use Rattle.due_model.specs.claims.Rules.{has_letter}

-- whether an escalation of object o matches the n-th notification of a problem, of this letter, at t
abbrev pub matches : Config → Zone → (o n : ℕ) → OptionLetter → (t : ℕ) → Escalation → Bool
matches c zone o n letter t e =
    e.object.0 == o && nat_le e.first n && (e.last == 0 || nat_le n e.last)
    && has_letter e.options letter && in_period c zone e.period t

-- Match: the escalations that match (chapter "Notification Escalations")
abbrev pub matching : Config → Zone → (o n : ℕ) → OptionLetter → (t : ℕ) → List Escalation
matching c zone o n letter t = filter (matches c zone o n letter t) c.escalations

-- the least interval of escalations; the object's own, where there is none (chapter "Notification Escalations")
abbrev pub interval_of : Object → List Escalation → ℕ
interval_of object [] = object.interval
interval_of object (e ∷ es) = fold (λ least x. min least x.interval) e.interval es

-- Gap: how long after a problem notice the next of the same state is due, in seconds; 0 is never
abbrev pub gap : Config → Zone → (o : ℕ) → Object → (n : ℕ) → OptionLetter → (t : ℕ) → ℕ
gap c zone o object n letter t = 60 * interval_of object (matching c zone o n letter t)

-- whether a list of contacts has contact k
abbrev pub has_contact : List ContactId → ℕ → Bool
has_contact contacts k = list_any (λ contact. contact.0 == k) contacts

-- whether contact k is among those of escalations; of the object, where there is none
abbrev pub reaches : Object → List Escalation → ℕ → Bool
reaches object [] k = has_contact object.contacts k
reaches object (e ∷ es) k = has_contact e.contacts k || list_any (λ x. has_contact x.contacts k) es

-- the contacts with a test, each once, in number order
abbrev pub contacts_with : Config → (ℕ → Bool) → List ℕ
contacts_with c test = filter test (range_with_len 0 (length c.contacts))

-- Reach: the contacts of the matching escalations, or the object's own where none matches
abbrev pub reach : Config → Zone → (o : ℕ) → Object → (n : ℕ) → OptionLetter → (t : ℕ) → List ℕ
reach c zone o object n letter t = contacts_with c (reaches object (matching c zone o n letter t))
